use Rattle.cp_program.specs.View as view
use Rattle.cp_kernel.proofs.Stepping.{nothing_turned}
use Rattle.cp_kernel.proofs.turns.has_no_kernel_turn.Goals as goal

pub returns-clause-turn : goal.returns-clause-turn
returns-clause-turn c = λ is clock n input.
    nothing_turned (view.program c.args.program.now) clock n c.args.kernel.now c.args.private.now input
    (c.has_nothing_to_do.ensures.due is input) (c.has_nothing_to_do.ensures.empty is)
