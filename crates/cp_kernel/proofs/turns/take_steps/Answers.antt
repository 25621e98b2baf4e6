use Rattle.std.proofs.Common.{sym, ◌∙◌}
use Rattle.cp_program.specs.View as view
use Rattle.cp_kernel.specs.KernelOf.{turning}
use Rattle.cp_kernel.proofs.Stepping.{steps_rest}
use Rattle.cp_kernel.proofs.turns.take_steps.Goals as goal

pub returns-else-is_due-clause-steps : goal.returns-else-is_due-clause-steps
returns-else-is_due-clause-steps c =
    let x = turning c.args.kernel.now c.args.private.now c.args.input.now in
    sym (steps_rest (view.program c.args.program.now) c.args.clock c.args.count x (sym (c.is_due.ensures.due c.args.input.now) ∙ c.if-is_due.false))
