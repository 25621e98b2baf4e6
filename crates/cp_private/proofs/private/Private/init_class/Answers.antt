-- The step is the attempt with the class that the code finds, which is the definition's (`named`).
-- The lemmas of `Calling` say how it ends: without a unit, by a fault, or by entering the unit. Until
-- then only words are written, so the registers still have room for the unit.
use Rattle.std.proofs.Common.{rules, arith, ◌≡◌, ◌+◌, pos, map, true, false, Err, length, refl, ap, sym, ◌∙◌}
use Rattle.std.proofs.lemmas.List.{length-map}
use Rattle.cp_model.specs.Integers.{same_integer}
use Rattle.cp_model_machine.specs.PrivateStates.{Acting, StepContext, PrivateState, private_outcome, set_word}
use Rattle.cp_model_machine.specs.Calling.{class_at, enter, init_class, settle}
use Rattle.cp_model_machine.specs.Passing.{component_called}
use Rattle.cp_program.specs.Reaches.{cap_place}
use Rattle.cp_program.specs.View as view
use Rattle.cp_private.specs.Calls.{passing_of}
use Rattle.cp_private.specs.States.{join, outcome, outside_of}
use Rattle.cp_private.proofs.Calling.{FastPath, end_of, init_of_class, passed, refused, unfound}
use Rattle.cp_private.proofs.private.Private.init_class.Goals as goal
use Rattle.cp_private.proofs.private.Private.init_class.Goals.{After-callee-at, In-Some}

module _ (c : After-callee-at) where
  abbrev w : StepContext
  w = outside_of c.args.outside.now (length c.args.self.now.memory.words.items)

  abbrev o : PrivateState
  o = join c.args.self.now c.args.outside.now.input.now c.args.shared.now

  abbrev fast_path : FastPath
  fast_path = init_of_class (view.program c.args.program.now) w o (view.call c.args.call.now) c.args.next c.callee-at.result.component

  abbrev defined : Acting
  defined =
      let program = view.program c.args.program.now in
      let call = view.call c.args.call.now in
      init_class program w o call (component_called program w o call.target).component c.args.next

  named : end_of fast_path ≡ defined
  named =
      ap (λ k. end_of (init_of_class (view.program c.args.program.now) w o (view.call c.args.call.now) c.args.next k.component))
      (c.callee-at.ensures c.args.outside.now.input.now)

-- The address of the class is the address of a word.
reported : (c : In-Some) → cap_place c.callee-at.result.component ≡ c.callee-at.result.component
reported c = omega (arith, c.in-Some.ensures.room.component, c.args.self.now.facts, c.requires)

pub returns-in_default-clause-step : goal.returns-in_default-clause-step
returns-in_default-clause-step c =
    let k = (goal.at.returns-in_default-clause-step c).After-callee-at in
    unfound (fast_path k) (c.in_default.ensures.unit (w k) c.args.outside.now.input.now refl) ∙ named k

pub returns-then-word-ne0-clause-step : goal.returns-then-word-ne0-clause-step
returns-then-word-ne0-clause-step c =
    let k = (goal.at.returns-then-word-ne0-clause-step c).After-callee-at in
    let input = c.args.outside.now.input.now in
    let mark = c.word.ensures input c.callee-at.result.component (reported (goal.at.returns-then-word-ne0-clause-step c).In-Some) in
    let set : same_integer c.word.result (pos 0) ≡ false = search rules in
    let there = c.in-Some.ensures.unit (w k) input refl in
    refused (fast_path k) (view.code_unit (view.plans_of c.args.program.now) c.in-Some.unit.now) there (rw mark at set) ∙ named k

pub returns-in_err-pass_all-clause-step : goal.returns-in_err-pass_all-clause-step
returns-in_err-pass_all-clause-step c =
    let k = (goal.at.returns-in_err-pass_all-clause-step c).After-callee-at in
    let input = c.args.outside.now.input.now in
    let p = join c.pass_all.new.self input c.pass_all.new.shared in
    let mark = c.word.ensures input c.callee-at.result.component (reported (goal.at.returns-in_err-pass_all-clause-step c).In-Some) in
    let unset : same_integer c.word.result (pos 0) ≡ true = search rules in
    let there = c.in-Some.ensures.unit (w k) input refl in
    let given : c.from_residual.result ≡ Err c.in_err-pass_all.field-0.0 = search rules in
    let passing = rw c.deref.ensures.value at c.pass_all.ensures.step (length c.args.self.now.memory.words.items) in
    ap (outcome p) given
    ∙ (passed (fast_path k) (view.code_unit (view.plans_of c.args.program.now) c.in-Some.unit.now) _ there (rw mark at unset) (ap (passing_of p) (sym c.in_err-pass_all.was) ∙ passing) ∙ named k)

pub enter-requires : goal.enter-requires
enter-requires c =
    let room = c.in-Some.ensures.room in
    let passing = c.pass_all.ensures.kept in
    let settled = c.settle.ensures.kept in
    let marked = c.set_word.ensures.kept in
    record {
      frame = omega (arith, room.frames, passing.depth, passing.frames, settled.depth, settled.frames, marked.depth, marked.frames);
      base = omega (arith, room.words, passing.base, settled.base, marked.base, c.args.self.now.facts);
      temp = omega (arith, room.temps, passing.temp, settled.temp, marked.temp, c.args.self.now.facts);
      component = omega (arith, room.component, c.args.self.now.facts, c.requires);
    }

pub returns-clause-step : goal.returns-clause-step
returns-clause-step c =
    let k = (goal.at.returns-clause-step c).After-callee-at in
    let input = c.args.outside.now.input.now in
    let at = c.callee-at.result.component in
    let from = (o k).base + (view.call c.args.call.now).words in
    let p = join c.pass_all.new.self input c.pass_all.new.shared in
    let unit = view.code_unit (view.plans_of c.args.program.now) c.in-Some.unit.now in
    let is_word = reported (goal.at.returns-clause-step c).In-Some in
    let mark = c.word.ensures input at is_word in
    let unset : same_integer c.word.result (pos 0) ≡ true = search rules in
    let there = c.in-Some.ensures.unit (w k) input refl in
    let passing = ap (passing_of p) (sym c.in_ok-pass_all.was) ∙ rw c.deref.ensures.value at c.pass_all.ensures.step (length c.args.self.now.memory.words.items) in
    let arguments = c.args.call.now.arguments.items in
    let count : c.len.result ≡ length (map view.argument arguments) = omega (arith, c.len.ensures, length-map arguments view.argument) in
    let settled = c.settle.ensures.step input ∙ ap (settle p from at) count in
    let marked = c.set_word.ensures.step input at is_word ∙ ap (λ q. set_word q at (pos 1)) settled in
    let entered = c.enter.ensures.step (view.plans_of c.args.program.now) input c.set_word.new.shared
    ∙ ap (λ q. enter q (class_at at) unit (view.call c.args.call.now) (record { counter = c.args.next; into = 0 })) marked in
    ap private_outcome entered ∙ (passed (fast_path k) unit _ there (rw mark at unset) passing ∙ named k)
