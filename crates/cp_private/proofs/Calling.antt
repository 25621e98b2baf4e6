-- Calls and `init`, once the component is known. They have one form, an attempt: if there is room for
-- the unit, a test decides between a fault and the passing of arguments, after which the unit is
-- entered. So each way in which the code ends is one lemma on attempts.
use Rattle.std.proofs.Common.{◌≡◌, ℕ, ◌+◌, None, Some, true, false, length, ap, sym, ◌∙◌}
use Rattle.std.specs.Prelude.{Bool, if◌then◌else◌, not, pos, slice_get}
use Rattle.cp_model.specs.Integers.{same_integer}
use Rattle.cp_model.specs.declared.state.Fault.{Fault}
use Rattle.cp_model.specs.declared.state.Fault.TheVariants as fault
use Rattle.cp_model_program.specs.Programs.{Call, CodeUnit, Program}
use Rattle.cp_model_program.specs.Starts.{word}
use Rattle.cp_model_machine.specs.PrivateStates.{Acting, Enters, Opens, StepContext, PrivateState, fault_in, private_outcome, guard, set_word}
use Rattle.cp_model_machine.specs.Calling.{Back, class_at, enter, gate_effect, has_room, settle, start_words, with_unit}
use Rattle.cp_model_machine.specs.Passing.{Called, Passing, pass_all, when_passed}

-- The component is at the address `at`, and the arguments belong to the words at `home`. If the test
-- fails, the process faults, and otherwise `done` follows the passing of arguments.
pub record FastPath : Type 0 where
  pub program : Program
  pub outside : StepContext
  pub own : PrivateState
  pub call : Call
  pub at : ℕ
  pub home : ℕ
  pub test : Bool
  pub refusal : Fault
  pub done : CodeUnit → PrivateState → Acting

abbrev pub IsFor : FastPath → CodeUnit → Type 0
IsFor a u = (go : CodeUnit → Acting) → with_unit a.program a.outside a.own a.call a.at go ≡ go u

abbrev pub IsForNone : FastPath → Type 0
IsForNone a = (go : CodeUnit → Acting) → with_unit a.program a.outside a.own a.call a.at go ≡ private_outcome a.own

abbrev pub all_passed : FastPath → Passing
all_passed a = pass_all a.outside (a.own.base + a.call.words) a.home a.call.arguments a.own

abbrev tested : FastPath → CodeUnit → Acting
tested a u = guard a.test a.own a.refusal (when_passed (all_passed a) (a.done u))

abbrev pub end_of : FastPath → Acting
end_of a = with_unit a.program a.outside a.own a.call a.at (tested a)

-- ---- How it ends

pub unfound : (a : FastPath) → IsForNone a → private_outcome a.own ≡ end_of a
unfound a none = sym (none (tested a))

pub refused : (a : FastPath) (u : CodeUnit) → IsFor a u → a.test ≡ false → fault_in a.own a.refusal ≡ end_of a
refused a u there fails =
    sym (there (tested a) ∙ ap (λ b. guard b a.own a.refusal (when_passed (all_passed a) (a.done u))) fails)

pub passed : (a : FastPath) (u : CodeUnit) (p : Passing) → IsFor a u → a.test ≡ true → p ≡ all_passed a → when_passed p (a.done u) ≡ end_of a
passed a u p there holds is =
    ap (λ q. when_passed q (a.done u)) is
    ∙ sym (there (tested a) ∙ ap (λ b. guard b a.own a.refusal (when_passed (all_passed a) (a.done u))) holds)

module _ (program : Program) (w : StepContext) (o : PrivateState) (call : Call) where
  -- ---- The three that there are

  abbrev pub call_of : Back → Called → FastPath
  call_of back c = record {
    program = program;
    outside = w;
    own = o;
    call = call;
    at = c.component;
    home = o.base + call.words;
    test = c.is_set;
    refusal = fault.NotInitialised;
    done = λ u p. (enter (start_words (o.base + call.words) u p) c u call back, gate_effect c.gate Enters);
  }

  abbrev pub init_of_class : ℕ → ℕ → FastPath
  init_of_class next at = record {
    program = program;
    outside = w;
    own = o;
    call = call;
    at = at;
    home = at;
    test = same_integer (word o.words at) (pos 0);
    refusal = fault.InitialisedTwice;
    done = λ u p. private_outcome
        (enter (set_word (settle p (o.base + call.words) at (length call.arguments)) at (pos 1)) (class_at at) u call (record { counter = next; into = 0 }));
  }

  abbrev pub init_of_monitor : ℕ → ℕ → Called → FastPath
  init_of_monitor next m c = record {
    program = program;
    outside = w;
    own = o;
    call = call;
    at = c.component;
    home = c.component;
    test = not c.is_set;
    refusal = fault.InitialisedTwice;
    done = λ u p. (enter (settle p (o.base + call.words) c.component (length call.arguments)) c u call (record { counter = next; into = 0 }), Opens m);
  }

  -- ---- The unit

  pub unit_there : (at : ℕ) (go : CodeUnit → Acting) (u : CodeUnit) → slice_get program.units call.routine ≡ Some u
      → has_room w o call u at ≡ true → with_unit program w o call at go ≡ go u
  unit_there at go u is room =
      ap (λ r. elim r as (λ x. Acting) [ None ↦ private_outcome o | Some v ↦ if has_room w o call v at then go v else private_outcome o ]) is
      ∙ ap (λ b. if b then go u else private_outcome o) room

  pub unit_full : (at : ℕ) (go : CodeUnit → Acting) (u : CodeUnit) → slice_get program.units call.routine ≡ Some u
      → has_room w o call u at ≡ false → with_unit program w o call at go ≡ private_outcome o
  unit_full at go u is room =
      ap (λ r. elim r as (λ x. Acting) [ None ↦ private_outcome o | Some v ↦ if has_room w o call v at then go v else private_outcome o ]) is
      ∙ ap (λ b. if b then go u else private_outcome o) room
