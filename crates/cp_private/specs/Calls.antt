-- What a call finds, what it returns, and what is known once arguments have been passed.
use Rattle.std.specs.Prelude.{◌≡◌, ◌≤◌, ◌<◌, ℕ, Bool, true, false, ◌+◌, ℤ, List, [], length, slice_get, Option, None, Some, Result, Ok, Err, if◌then◌else◌}
use Rattle.cp_model.specs.Integers.{same_integer}
use Rattle.cp_model.specs.declared.state.Fault.{Fault}
use Rattle.cp_model.specs.declared.state.Fault.TheVariants as fault
use Rattle.cp_model_program.specs.Starts.{unset, word}
use Rattle.cp_model_machine.specs.PrivateStates as states
use Rattle.cp_model_machine.specs.PrivateStates.{PrivateState, set_temp}
use Rattle.cp_model_machine.specs.Calling as calling
use Rattle.cp_model_machine.specs.Passing as passing
use Rattle.cp_private.specs.States.{frame_or_none, join}
use Rattle.cp_private.specs.declared.called.Called.{Called}
use Rattle.cp_private.specs.declared.called.Back.{Back}
use Rattle.cp_private.specs.declared.private.Private.{Private}
use Rattle.cp_program.specs.declared.operation.Call.{Call}
use Rattle.cp_program.specs.declared.program.CodeUnit.{CodeUnit}

abbrev pub called_of : Called → passing.Called
called_of c = record { component = c.component; is_set = c.is_set; gate = c.gate }

abbrev pub back : Back → calling.Back
back b = record { counter = b.counter; into = b.into }

-- The state, with the result of the passing step that led to it.
abbrev pub passing_of : PrivateState → Result (Unit {0}) Fault → passing.Passing
passing_of o (Ok u) = record { own = o; fault = None }
passing_of o (Err f) = record { own = o; fault = Some f }

-- The value that the running routine returns, if it is a function.
abbrev pub value_to_return : PrivateState → Bool → Result (Option ℤ) Fault
value_to_return o false = Ok None
value_to_return o true =
    if same_integer (word o.words o.base) unset then Err fault.NoResult else Ok (Some (word o.words o.base))

-- The state in which the caller has received the value.
abbrev pub returning : PrivateState → states.Frame → Option ℤ → PrivateState
returning o f None = o
returning o f (Some n) = set_temp o (f.temp + f.into) n

-- Above the frames in use is that of a call which is about to be entered.
abbrev pub HasKept : Private → passing.Called → calling.Back → Type 0
HasKept x callee back = frame_or_none (slice_get x.frames.items x.depth) ≡ calling.frame_of (join x [] []) callee back

-- The room that is left for a unit that is called.
pub record HasRoom (x : Private) (shared : List ℤ) (call : Call) (u : CodeUnit) (place : ℕ) : Type 0 where
  pub frames : x.depth < length x.frames.items
  pub words : x.memory.base + call.words + u.words ≤ length x.memory.words.items
  pub temps : x.memory.temp + call.temps + u.temps ≤ length x.memory.temps.items
  pub component : place ≤ length x.memory.words.items + length shared
