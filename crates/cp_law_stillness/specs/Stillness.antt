-- Still states, in which no process can move, and states that differ only in the count of rounds.
use Rattle.std.specs.Prelude.{Bool, List, [], false, if◌then◌else◌, true, ℕ, ◌+◌, ◌∷◌, ◌≡◌}
use Rattle.cp_model.specs.Configurations.{Fresh, Ready, Status, Waiting}
use Rattle.cp_model.specs.States.{Setup, State, is_in, processes}
use Rattle.cp_model.specs.Turns as turns
use Rattle.cp_model.specs.Rounds.{Event, KernelTurn, PrivateStep}

-- ---- Still states

-- A ready process has a next step. A fresh one is ready at the end of the round, and a waiting one
-- when the clock wakes it. Any other process continues only by a step of another one, if ever: by the
-- `init` that starts it, by the step that hands it its gate, or by the `continue` of its queue.
abbrev pub can_move : Status → Bool
can_move Ready = true
can_move Fresh = true
can_move Waiting = true
can_move _ = false

abbrev pub none_can_move : State → List ℕ → Bool
none_can_move s [] = true
none_can_move s (p ∷ ps) = if can_move (s.status p) then false else none_can_move s ps

-- No process of the text can move.
abbrev pub is_still : Setup → State → Bool
is_still setup s = none_can_move s (processes setup)

-- ---- What is done to states

-- The events are of processes of the text.
abbrev pub AreOfProcesses : Setup → List Event → Type 0
AreOfProcesses setup [] = Unit {0}
AreOfProcesses setup (PrivateStep p ∷ es) = (is_in p (processes setup) ≡ true) × AreOfProcesses setup es
AreOfProcesses setup (KernelTurn p ∷ es) = (is_in p (processes setup) ≡ true) × AreOfProcesses setup es

-- The events of all rounds are of processes of the text. Each round has its turn length.
abbrev pub AreAllOfProcesses : Setup → List (ℕ × List Event) → Type 0
AreAllOfProcesses setup [] = Unit {0}
AreAllOfProcesses setup (r ∷ rs) = AreOfProcesses setup r.1 × AreAllOfProcesses setup rs

-- From `s` to `u` the count of rounds has grown by `n`, and nothing else has changed. Numbers that no
-- process of the text has are left out of it, since their statuses mean nothing.
pub record OnlyCountGrows (setup : Setup) (n : ℕ) (s u : State) : Type 0 where
  pub store : u.store ≡ s.store
  pub continuation : u.continuation ≡ s.continuation
  pub transcript : u.transcript ≡ s.transcript
  pub consumed : u.consumed ≡ s.consumed
  pub status : (p : ℕ) → is_in p (processes setup) ≡ true → u.status p ≡ s.status p
  pub gates : u.gates ≡ s.gates
  pub rounds : u.rounds ≡ s.rounds + n

-- No step of process `p` changes the state, and no turn, however long.
pub record IsIdle (setup : Setup) (s : State) (p : ℕ) : Type 0 where
  pub private : turns.private_step setup s p ≡ s
  pub kernel : turns.kernel_step setup s p ≡ s
  pub private_turn : (t : ℕ) → turns.private_turn setup t s p ≡ s
  pub kernel_turn : (t : ℕ) → turns.kernel_turn setup t s p ≡ s
