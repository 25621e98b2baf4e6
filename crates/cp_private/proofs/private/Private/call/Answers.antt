-- The call is the attempt with the callee that the code finds, which is the definition's (`named`).
-- The lemmas of `Calling` say how it ends: without a unit, by a fault, or by entering the unit.
-- Passing arguments and starting words write only words, so the registers still have room for the
-- unit.
use Rattle.std.proofs.Common.{rules, arith, ◌≡◌, true, false, Err, length, refl, ap, sym, ◌∙◌}
use Rattle.cp_model_machine.specs.PrivateStates.{StepContext, PrivateState}
use Rattle.cp_model_machine.specs.Calling.{call_step, enter}
use Rattle.cp_program.specs.View as view
use Rattle.cp_private.specs.Calls.{back, called_of, passing_of}
use Rattle.cp_private.specs.States.{join, outcome, outside_of}
use Rattle.cp_private.proofs.Calling.{FastPath, call_of, end_of, passed, refused, unfound}
use Rattle.cp_private.proofs.private.Private.call.Goals as goal
use Rattle.cp_private.proofs.private.Private.call.Goals.{After-callee-callee}

module _ (c : After-callee-callee) where
  abbrev w : StepContext
  w = outside_of c.args.outside.now (length c.args.self.now.memory.words.items)

  abbrev o : PrivateState
  o = join c.args.self.now c.args.outside.now.input.now c.args.shared.now

  abbrev fast_path : FastPath
  fast_path = call_of (view.program c.args.program.now) w o (view.call c.args.call.now) (back c.args.link) (called_of c.callee-callee.result)

  named : end_of fast_path ≡ call_step (view.program c.args.program.now) w o (view.call c.args.call.now) (back c.args.link)
  named = ap (λ k. end_of (call_of (view.program c.args.program.now) w o (view.call c.args.call.now) (back c.args.link) k)) (c.callee-callee.ensures c.args.outside.now.input.now)

pub returns-in_default-clause-step : goal.returns-in_default-clause-step
returns-in_default-clause-step c =
    let k = (goal.at.returns-in_default-clause-step c).After-callee-callee in
    unfound (fast_path k) (c.in_default.ensures.unit (w k) c.args.outside.now.input.now refl) ∙ named k

pub returns-then-not-callee-clause-step : goal.returns-then-not-callee-clause-step
returns-then-not-callee-clause-step c =
    let k = (goal.at.returns-then-not-callee-clause-step c).After-callee-callee in
    let unset : c.callee-callee.result.is_set ≡ false = search rules in
    let there = c.in-Some.ensures.unit (w k) c.args.outside.now.input.now refl in
    refused (fast_path k) (view.code_unit (view.plans_of c.args.program.now) c.in-Some.unit.now) there unset ∙ named k

pub returns-in_err-pass_all-clause-step : goal.returns-in_err-pass_all-clause-step
returns-in_err-pass_all-clause-step c =
    let k = (goal.at.returns-in_err-pass_all-clause-step c).After-callee-callee in
    let p = join c.pass_all.new.self c.args.outside.now.input.now c.pass_all.new.shared in
    let set : c.callee-callee.result.is_set ≡ true = search rules in
    let there = c.in-Some.ensures.unit (w k) c.args.outside.now.input.now refl in
    let given : c.from_residual.result ≡ Err c.in_err-pass_all.field-0.0 = search rules in
    let passing = rw c.deref.ensures.value at c.pass_all.ensures.step (length c.args.self.now.memory.words.items) in
    ap (outcome p) given
    ∙ (passed (fast_path k) (view.code_unit (view.plans_of c.args.program.now) c.in-Some.unit.now) _ there set (ap (passing_of p) (sym c.in_err-pass_all.was) ∙ passing) ∙ named k)

pub enter-requires : goal.enter-requires
enter-requires c =
    let room = c.in-Some.ensures.room in
    let passing = c.pass_all.ensures.kept in
    let started = c.start_words.ensures.kept in
    record {
      frame = omega (arith, room.frames, passing.depth, passing.frames, started.depth, started.frames);
      base = omega (arith, room.words, passing.base, started.base, c.args.self.now.facts);
      temp = omega (arith, room.temps, passing.temp, started.temp, c.args.self.now.facts);
      component = search rules;
    }

pub returns-clause-step : goal.returns-clause-step
returns-clause-step c =
    let k = (goal.at.returns-clause-step c).After-callee-callee in
    let input = c.args.outside.now.input.now in
    let p = join c.pass_all.new.self input c.pass_all.new.shared in
    let unit = view.code_unit (view.plans_of c.args.program.now) c.in-Some.unit.now in
    let set : c.callee-callee.result.is_set ≡ true = search rules in
    let there = c.in-Some.ensures.unit (w k) input refl in
    let passing = ap (passing_of p) (sym c.in_ok-pass_all.was) ∙ rw c.deref.ensures.value at c.pass_all.ensures.step (length c.args.self.now.memory.words.items) in
    let begun = rw c.deref-2.ensures.value at c.start_words.ensures.step input in
    let entered = c.enter.ensures.step (view.plans_of c.args.program.now) input c.start_words.new.shared
    ∙ ap (λ q. enter q (called_of c.callee-callee.result) unit (view.call c.args.call.now) (back c.args.link)) begun in
    (λ i. (entered i, c.enters.ensures i)) ∙ (passed (fast_path k) unit _ there set passing ∙ named k)
