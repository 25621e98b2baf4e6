-- What one step of a process works on, what else it reads, and what it leaves to the kernel.
use Rattle.std.specs.Prelude.{Bool, List, Option, [], drop, false, true, ℕ, ◌∷◌}
use Rattle.cp_model.specs.Abstract.{Designator, Expression}
use Rattle.cp_model.specs.Locations.{Location}
use Rattle.cp_model.specs.Stores.{Store, Writes, put_all}
use Rattle.cp_model.specs.Outcomes.{Gives, Outcome}
use Rattle.cp_model.specs.Environments.{Environment}
use Rattle.cp_model.specs.Places.{Place, TypedValue}
use Rattle.cp_model.specs.Operators.{Clock}
use Rattle.cp_model.specs.Expressions.{place, value}
use Rattle.cp_model.specs.Continuations.{Task, marked_monitors}

-- A process is unstarted, fresh (started in the running round), ready, ended, waiting for the
-- clock, asking for the gate of a monitor, delayed in a queue of a monitor, or stopped by a fault.
pub data Status : Type 0 where
  Unstarted Fresh Ready Ended Waiting : Status
  Asking : (m : ℕ) → Status
  Delayed : (m : ℕ) (queue : Location) → Status
  Faulted : (number : ℕ) → Status

-- The gates that a process holds, innermost first: those that its end marks name, except the
-- innermost one while the process is asking for it or is delayed there.
abbrev pub held_gates : Status → List Task → List ℕ
held_gates (Asking m) k = drop 1 (marked_monitors k)
held_gates (Delayed m q) k = drop 1 (marked_monitors k)
held_gates _ k = marked_monitors k

abbrev pub holds_gate : Status → List Task → Bool
holds_gate x k = elim (held_gates x k) [ [] ↦ false | m ∷ ms ↦ true ]

-- The store of the system and, for one process, what it has left to do, its transcript, and how
-- much input it has taken.
pub record Configuration : Type 0 where
  pub store : Store
  pub continuation : List Task
  pub transcript : List ℕ
  pub consumed : ℕ

-- What else a step reads: the clock, the number of the process and its input, which processes are
-- started, and which monitors are initialised.
pub record Context : Type 0 where
  pub clock : Clock
  pub process : ℕ
  pub input : List ℕ
  pub is_started : ℕ → Bool
  pub is_set : ℕ → Bool

-- What a step leaves to the kernel. `Own` leaves nothing. `Ends` and `Waits` concern only the
-- process itself. With the others the process enters or leaves a monitor, is delayed in a monitor's
-- queue, continues (with the process that was in the queue, if any), opens a monitor's body as
-- the holder of its gate, or starts process `r`, which then has `continuation` left to do.
pub data Effect : Type 0 where
  Own Ends Waits : Effect
  Enters : (m : ℕ) → Effect
  Leaves : (m : ℕ) → Effect
  Delays : (m : ℕ) (queue : Location) → Effect
  Continues : (m : ℕ) (resumed : Option ℕ) → Effect
  Opens : (m : ℕ) → Effect
  Starts : (r : ℕ) (continuation : List Task) → Effect

abbrev pub StepResult : Type 0
StepResult = Outcome (Configuration × Effect)

-- A step that leaves nothing to the kernel.
abbrev pub own_step : Configuration → StepResult
own_step config = Gives (config, Own)

abbrev pub with_continuation : Configuration → List Task → Configuration
with_continuation config k = record config { continuation = k }

abbrev pub with_writes : Configuration → Writes → List Task → Configuration
with_writes config ws k = record config { store = put_all ws config.store; continuation = k }

-- The value of an expression, and the place of a designator, in a configuration.
abbrev pub evaluation : Context → Configuration → Environment → Expression → Outcome TypedValue
evaluation context config env e = value context.clock env config.store e

abbrev pub designation : Context → Configuration → Environment → Designator → Outcome Place
designation context config env d = place context.clock env config.store d
