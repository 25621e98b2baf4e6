-- Rounds of one processor, phased rounds, and rounds in any order of events.
--
-- Each round begins with the waking and ends with the closing.
use Rattle.std.specs.Prelude.{List, [], fold, if◌then◌else◌, nat_eq, suc, zero, ℕ, ◌%◌, ◌∷◌}
use Rattle.cp_model.specs.Locations.{OfActivation, OfMonitor, OfProcess, Owner}
use Rattle.cp_model.specs.Configurations.{Fresh, Ready, Status, Waiting}
use Rattle.cp_model.specs.States.{Setup, State, is_in, processes}
use Rattle.cp_model.specs.Turns.{kernel_turn, private_step, private_turn}

-- ---- Waking and closing

abbrev pub wake_status : Status → Status
wake_status Waiting = Ready
wake_status x = x

-- If the number of the round is a multiple of the tick, every waiting process becomes ready.
abbrev pub wake : Setup → State → State
wake setup s = if nat_eq (suc s.rounds % setup.tick) 0 then record s { status = λ p. wake_status (s.status p) } else s

abbrev pub after_closing : Status → Status
after_closing Fresh = Ready
after_closing x = x

-- Every fresh process becomes ready, and the count of rounds grows by one.
abbrev pub close_round : State → State
close_round s = record s { status = λ p. after_closing (s.status p); rounds = suc s.rounds }

-- ---- One processor

-- For each process by number, its private turn and then its kernel turn.
abbrev pub all_turns : Setup → ℕ → State → List ℕ → State
all_turns setup t s [] = s
all_turns setup t s (p ∷ ps) = all_turns setup t (kernel_turn setup t (private_turn setup t s p) p) ps

abbrev pub sequential_round : Setup → ℕ → State → State
sequential_round setup t s = close_round (all_turns setup t (wake setup s) (processes setup))

-- The state after a number of rounds of one processor.
abbrev pub run : Setup → ℕ → ℕ → State → State
run setup t zero s = s
run setup t (suc n) s = run setup t n (sequential_round setup t s)

-- ---- Phased

-- The process that a location belongs to, or 0 if a monitor owns it.
abbrev pub owner_process : Owner → ℕ
owner_process (OfProcess p) = p
owner_process (OfActivation p d) = p
owner_process (OfMonitor m) = 0

-- A part of the state as the private turn of p leaves it, if p is one of the processes.
abbrev pub after_own_turn : {A : Type 0} → Setup → ℕ → State → (State → A) → ℕ → A
after_own_turn setup t s part p = if is_in p (processes setup) then part (private_turn setup t s p) else part s

-- All private turns on one state: each process's own part is what its turn makes of it, and all
-- else stays.
abbrev pub own_parts : Setup → ℕ → State → State
own_parts setup t s = record s {
  store = λ l. after_own_turn setup t s (λ x. x.store l) (owner_process l.owner);
  continuation = λ p. after_own_turn setup t s (λ x. x.continuation p) p;
  transcript = λ p. after_own_turn setup t s (λ x. x.transcript p) p;
  consumed = λ p. after_own_turn setup t s (λ x. x.consumed p) p;
  status = λ p. after_own_turn setup t s (λ x. x.status p) p;
}

abbrev pub kernel_turns : Setup → ℕ → State → List ℕ → State
kernel_turns setup t s [] = s
kernel_turns setup t s (p ∷ ps) = kernel_turns setup t (kernel_turn setup t s p) ps

-- All private turns on the state at the start of the round, then the kernel turns by number.
abbrev pub phased_round : Setup → ℕ → State → State
phased_round setup t s = close_round (kernel_turns setup t (own_parts setup t (wake setup s)) (processes setup))

-- ---- Any order of events

-- `PrivateStep p` is one private step of p, `KernelTurn p` is the whole kernel turn of p.
pub data Event : Type 0 where
  PrivateStep : (p : ℕ) → Event
  KernelTurn : (p : ℕ) → Event

abbrev pub replay_event : Setup → ℕ → State → Event → State
replay_event setup t s (PrivateStep p) = private_step setup s p
replay_event setup t s (KernelTurn p) = kernel_turn setup t s p

abbrev pub replay_round : Setup → ℕ → State → List Event → State
replay_round setup t s es = close_round (fold (replay_event setup t) (wake setup s) es)
