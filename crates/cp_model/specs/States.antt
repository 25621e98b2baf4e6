-- The state of a whole system, and the setup, which stays the same from round to round.
use Rattle.std.specs.Prelude.{Bool, List, [], false, if◌then◌else◌, nat_eq, suc, true, zero, ℕ, ◌∷◌}
use Rattle.cp_model.specs.Abstract.{Monitor, Name, Process, Sort, Tree}
use Rattle.cp_model.specs.Declarations.{Variable, declarations, globals}
use Rattle.cp_model.specs.Stores.{Store}
use Rattle.cp_model.specs.Operators.{Clock}
use Rattle.cp_model.specs.Continuations.{Task}
use Rattle.cp_model.specs.Components.{is_component_of}
use Rattle.cp_model.specs.Configurations.{Configuration, Context, Status, Unstarted}

-- ---- Gates

-- A gate is unset until its monitor is initialised. Then it is free or held by a process.
pub data Holder : Type 0 where
  Unset Free : Holder
  HeldBy : (p : ℕ) → Holder

-- The askers are in the order in which they asked.
pub record Gate : Type 0 where
  pub holder : Holder
  pub askers : List ℕ

-- ---- States

-- The store; for each process, by number, what it has left to do, its transcript, how much input it
-- has taken, and its status; for each monitor, by number, its gate; and the count of rounds.
pub record State : Type 0 where
  pub store : Store
  pub continuation : ℕ → List Task
  pub transcript : ℕ → List ℕ
  pub consumed : ℕ → ℕ
  pub status : ℕ → Status
  pub gates : ℕ → Gate
  pub rounds : ℕ

-- The text, the input of each process, and the tick.
pub record Setup : Type 0 where
  pub tree : Tree
  pub inputs : ℕ → List ℕ
  pub tick : ℕ

-- The function `f`, but with the value `v` at the number `n`.
abbrev pub with_at : {A : Type 0} → ℕ → A → (ℕ → A) → ℕ → A
with_at n v f k = if nat_eq n k then v else f k

abbrev pub set_status : ℕ → Status → State → State
set_status p x s = record s { status = with_at p x s.status }

-- ---- One process's view

abbrev pub configuration : State → ℕ → Configuration
configuration s p = record {
  store = s.store;
  continuation = s.continuation p;
  transcript = s.transcript p;
  consumed = s.consumed p;
}

abbrev pub with_configuration : State → ℕ → Configuration → State
with_configuration s p r =
    record s {
      store = r.store;
      continuation = with_at p r.continuation s.continuation;
      transcript = with_at p r.transcript s.transcript;
      consumed = with_at p r.consumed s.consumed;
    }

abbrev pub running_clock : Setup → State → Clock
running_clock setup s = record { round = suc s.rounds; tick = setup.tick }

abbrev pub is_started : Status → Bool
is_started Unstarted = false
is_started _ = true

abbrev pub is_set : Holder → Bool
is_set Unset = false
is_set _ = true

abbrev pub context : Setup → State → ℕ → Context
context setup s p = record {
  clock = running_clock setup s;
  process = p;
  input = setup.inputs p;
  is_started = λ r. is_started (s.status r);
  is_set = λ m. is_set (s.gates m).holder;
}

-- ---- The components of the initial process

abbrev pub initial_variables : Setup → List (Name × Variable)
initial_variables setup = declarations (globals setup.tree) setup.tree.initial.variables

abbrev pub count_components : Sort → List (Name × Variable) → ℕ
count_components s [] = 0
count_components s (v ∷ vs) = if is_component_of s v.1.type then suc (count_components s vs) else count_components s vs

-- The number of processes, including the initial one, and the number of monitors.
abbrev pub process_count : Setup → ℕ
process_count setup = suc (count_components Process (initial_variables setup))

abbrev pub monitor_count : Setup → ℕ
monitor_count setup = count_components Monitor (initial_variables setup)

-- A list of numbers, rising from p, of the given length.
abbrev pub numbers_from : ℕ → ℕ → List ℕ
numbers_from p zero = []
numbers_from p (suc n) = p ∷ numbers_from (suc p) n

-- The numbers of all processes, rising. The initial process is 1.
abbrev pub processes : Setup → List ℕ
processes setup = numbers_from 1 (process_count setup)

abbrev pub is_in : ℕ → List ℕ → Bool
is_in p [] = false
is_in p (q ∷ qs) = if nat_eq p q then true else is_in p qs
