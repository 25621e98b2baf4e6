use Rattle.std.proofs.Common.{◌≡◌, suc, ◌-◌, ap, sym, ◌∙◌, arith}
use Rattle.cp_model_machine.specs.Steps as plain
use Rattle.cp_program.specs.View as view
use Rattle.cp_private.specs.States.{private_of}
use Rattle.cp_private.proofs.Lasting.{steps_more, steps_rest}
use Rattle.cp_private.proofs.turns.take_steps.Goals as goal

pub returns-then-not-is_ready-clause-steps : goal.returns-then-not-is_ready-clause-steps
returns-then-not-is_ready-clause-steps c =
    let program = view.program c.args.program.now in
    let clock = c.args.outside.now.clock in
    let input = c.args.outside.now.input.now in
    let still = c.is_ready.ensures.rest c.if-not-is_ready.true program clock input in
    sym (steps_rest program clock c.args.count (private_of c.args.private.now input) still)

pub returns-else-take_step-clause-steps : goal.returns-else-take_step-clause-steps
returns-else-take_step-clause-steps c =
    let program = view.program c.args.program.now in
    let clock = c.args.outside.now.clock in
    let input = c.args.outside.now.input.now in
    let o = private_of c.loop-left.private input in
    let left = c.loop-left.left - 1 in
    let more : c.loop-left.left ≡ suc left = omega (arith, c.loop-left-test.true) in
    let still = c.take_step.ensures.rest c.if-take_step.false in
    sym (steps_rest program clock left (private_of c.take_step.new.self input) still)
    ∙ (ap (plain.private_steps program clock left) c.take_step.ensures.step
    ∙ (sym (steps_more program clock c.loop-left.left left o more) ∙ c.loop-left.invariant.steps))
