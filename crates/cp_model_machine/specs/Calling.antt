-- Calls, returns and `init` over words.
use Rattle.std.specs.Prelude.{Bool, true, false, not, ◌&&◌, ℕ, zero, suc, ◌+◌, ◌-◌, pos, List, [], ◌∷◌, None, Some, if◌then◌else◌, length, nat_le, nat_lt, slice_get}
use Rattle.cp_model.specs.Integers.{same_integer}
use Rattle.cp_model.specs.declared.state.Fault.TheVariants as fault
use Rattle.cp_model_program.specs.Terms.{Argument}
use Rattle.cp_model_program.specs.Programs.{Call, CodeUnit, Program}
use Rattle.cp_model_program.specs.Starts.{block, paste, carry_out, unset, word}
use Rattle.cp_model_machine.specs.PrivateStates.{Acting, Effect, Enters, Frame, NoEffect, Opens, StepContext, PrivateState, Starts, fault_in, go_to, private_outcome, guard, set_temp, set_word}
use Rattle.cp_model_machine.specs.Passing.{Called, component_called, monitor_called, pass_all, when_passed}

-- ---- Frames

abbrev pub innermost : ℕ → ℕ → ℕ
innermost zero held = held
innermost (suc g) held = suc g

-- Where a call returns to: the caller's next operation, and its temp that takes a value.
pub record Back : Type 0 where
  pub counter : ℕ
  pub into : ℕ

abbrev pub frame_of : PrivateState → Called → Back → Frame
frame_of o c back = record {
  counter = back.counter;
  base = o.base;
  temp = o.temp;
  component = o.component;
  into = back.into;
  gate = c.gate;
  held = o.gate;
}

-- The private state after the call, in which the unit `u` runs in the component `c`.
abbrev pub enter : PrivateState → Called → CodeUnit → Call → Back → PrivateState
enter o c u call back =
    record o {
      counter = u.start;
      base = o.base + call.words;
      temp = o.temp + call.temps;
      component = c.component;
      gate = innermost c.gate o.gate;
      frames = frame_of o c back ∷ o.frames;
    }

-- There are enough own words and temps and a free frame for the unit, and its component exists.
abbrev pub has_room : StepContext → PrivateState → Call → CodeUnit → ℕ → Bool
has_room w o call u component =
    nat_lt (length o.frames) o.limit
    && (nat_le (o.base + call.words + u.words) w.own
    && (nat_le (o.temp + call.temps + u.temps) (length o.temps) && nat_le component (length o.words)))

-- If the unit doesn't exist or has no room, nothing is done.
abbrev pub with_unit : Program → StepContext → PrivateState → Call → ℕ → (CodeUnit → Acting) → Acting
with_unit program w o call component go = elim (slice_get program.units call.routine) [
  | None ↦ private_outcome o
  | Some u ↦ if has_room w o call u component then go u else private_outcome o
]

-- The number 0 is no monitor.
abbrev pub gate_effect : ℕ → (ℕ → Effect) → Effect
gate_effect zero f = NoEffect
gate_effect (suc g) f = f (suc g)

-- ---- Calls and returns

abbrev pub start_words : ℕ → CodeUnit → PrivateState → PrivateState
start_words base u o = record o { words = carry_out base u.starts o.words }

abbrev pub call_step : Program → StepContext → PrivateState → Call → Back → Acting
call_step program w o call back =
    let c = component_called program w o call.target in
    let to = o.base + call.words in
    with_unit program w o call c.component (λ u.
    guard c.is_set o fault.NotInitialised
    (when_passed (pass_all w to to call.arguments o) (λ p.
    (enter (start_words to u p) c u call back, gate_effect c.gate Enters))))

-- The private state after the return to the caller.
abbrev pub leave : PrivateState → Frame → List Frame → PrivateState
leave o f fs =
    record o {
      counter = f.counter;
      base = f.base;
      temp = f.temp;
      component = f.component;
      gate = f.held;
      frames = fs;
    }

-- The return of the routine that runs in `o`, where `changed` is the state to return with. If a
-- function has set no result, it faults and changes nothing else.
abbrev pub return_with : PrivateState → PrivateState → Frame → List Frame → Bool → Effect → Acting
return_with o changed f fs false e = (leave changed f fs, e)
return_with o changed f fs true e =
    if same_integer (word o.words o.base) unset
    then fault_in o fault.NoResult
    else (leave (set_temp changed (f.temp + f.into) (word o.words o.base)) f fs, e)

abbrev pub with_frame : PrivateState → List Frame → (Frame → List Frame → Acting) → Acting
with_frame o [] go = private_outcome o
with_frame o (f ∷ fs) go = go f fs

-- ---- Init

-- Moves the arguments to the words after the mark of the component.
abbrev pub settle : PrivateState → ℕ → ℕ → ℕ → PrivateState
settle o from to count = record o { words = paste (to + 1) (block o.words (from + 1) count) o.words }

abbrev pub class_at : ℕ → Called
class_at at = record { component = at; is_set = true; gate = 0 }

abbrev pub init_class : Program → StepContext → PrivateState → Call → ℕ → ℕ → Acting
init_class program w o call at next =
    let from = o.base + call.words in
    with_unit program w o call at (λ u.
    guard (same_integer (word o.words at) (pos 0)) o fault.InitialisedTwice
    (when_passed (pass_all w from at call.arguments o) (λ p.
    let q = set_word (settle p from at (length call.arguments)) at (pos 1) in
    private_outcome (enter q (class_at at) u call (record { counter = next; into = 0 })))))

abbrev pub init_monitor : Program → StepContext → PrivateState → Call → ℕ → ℕ → Acting
init_monitor program w o call m next =
    let c = monitor_called program w m in
    let from = o.base + call.words in
    with_unit program w o call c.component (λ u.
    guard (not c.is_set) o fault.InitialisedTwice
    (when_passed (pass_all w from c.component call.arguments o) (λ p.
    let q = settle p from c.component (length call.arguments) in
    (enter q c u call (record { counter = next; into = 0 }), Opens m))))

abbrev pub parameters_start : Program → ℕ → ℕ
parameters_start program r = elim (slice_get program.processes (r - 1)) [ None ↦ 0 | Some x ↦ x.parameters ]

-- The parameters wait for the process among the shared words.
abbrev pub init_process : Program → StepContext → PrivateState → ℕ → List Argument → ℕ → ℕ → Acting
init_process program w o r xs words next =
    let from = o.base + words in
    let to = w.own + parameters_start program r in
    guard (not (w.is_started r)) o fault.InitialisedTwice
    (when_passed (pass_all w from to xs o) (λ p. (go_to next (settle p from to (length xs)), Starts r)))
