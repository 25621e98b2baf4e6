-- Private states as plain data: what a process holds, what else its steps read, and what they leave
-- to the kernel.
use Rattle.std.specs.Prelude.{Bool, false, true, ℕ, ℤ, List, Result, Ok, Err, if◌then◌else◌, slice_set}
use Rattle.cp_model.specs.declared.state.Fault.{Fault}
use Rattle.cp_model_machine.specs.Values.{View}

pub data Activity : Type 0 where
  NotBegun Running Waiting Ended : Activity
  Faulted : (f : Fault) → Activity

-- What a call keeps of its caller: its program counter, which is the number of the operation at
-- which it continues, its other registers, the temp that takes the value, the monitor that the call
-- enters, or 0, and the innermost gate that the caller holds, or 0.
pub record Frame : Type 0 where
  pub counter : ℕ
  pub base : ℕ
  pub temp : ℕ
  pub component : ℕ
  pub into : ℕ
  pub gate : ℕ
  pub held : ℕ

-- The registers are the program counter (the number of the next operation), the beginnings of the
-- running activation, its temps and its component, and the innermost gate that is held, or 0. The
-- innermost frame comes first, and there are never more than `limit` frames.
pub record PrivateState : Type 0 where
  pub number : ℕ
  pub activity : Activity
  pub counter : ℕ
  pub base : ℕ
  pub temp : ℕ
  pub component : ℕ
  pub gate : ℕ
  pub words : List ℤ
  pub temps : List ℤ
  pub frames : List Frame
  pub limit : ℕ
  pub output : List ℕ
  pub input : List ℕ
  pub consumed : ℕ

-- What a step reads besides the private state: the clock, the number of the process's own words,
-- and which monitors and processes have been initialised. Shared words that are in reach follow the
-- own words.
pub record StepContext : Type 0 where
  pub clock : ℕ
  pub own : ℕ
  pub is_set : ℕ → Bool
  pub is_started : ℕ → Bool

-- What a step leaves to the kernel. A queue is given by its address.
pub data Effect : Type 0 where
  NoEffect : Effect
  Enters Leaves Opens Starts : (number : ℕ) → Effect
  Delays : (m queue : ℕ) → Effect
  Continues : (m : ℕ) (resumed : ℤ) → Effect

abbrev pub Acting : Type 0
Acting = PrivateState × Effect

abbrev pub view_of : StepContext → PrivateState → View
view_of w o = record {
  words = o.words;
  temps = o.temps;
  base = o.base;
  temp = o.temp;
  component = o.component;
  clock = w.clock;
}

-- ---- Outcomes of a step

abbrev pub private_outcome : PrivateState → Acting
private_outcome o = (o, NoEffect)

abbrev pub fault_in : PrivateState → Fault → Acting
fault_in o f = (record o { activity = Faulted f }, NoEffect)

-- Continues with a value. A fault changes only the activity.
abbrev pub with_result : {A : Type 0} → PrivateState → Result A Fault → (A → Acting) → Acting
with_result o (Ok x) go = go x
with_result o (Err f) go = fault_in o f

abbrev pub guard : Bool → PrivateState → Fault → Acting → Acting
guard b o f x = if b then x else fault_in o f

-- ---- Changes

abbrev pub set_word : PrivateState → ℕ → ℤ → PrivateState
set_word o at n = record o { words = slice_set o.words at n }

abbrev pub set_temp : PrivateState → ℕ → ℤ → PrivateState
set_temp o at n = record o { temps = slice_set o.temps at n }

abbrev pub go_to : ℕ → PrivateState → PrivateState
go_to next o = record o { counter = next }

abbrev pub is_running : Activity → Bool
is_running Running = true
is_running _ = false
