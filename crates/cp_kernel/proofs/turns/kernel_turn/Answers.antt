use Rattle.cp_kernel.proofs.Meant.{makes_kernel_turn}
use Rattle.cp_kernel.proofs.turns.kernel_turn.Goals as goal

pub returns-clause-meaning : goal.returns-clause-meaning
returns-clause-meaning c =
    makes_kernel_turn c.args.program.now c.args.turn.steps c.args.clock c.args.kernel.now c.take_turn.new.kernel c.args.private.now c.take_turn.new.private
    c.args.input.now c.kernel_steps.ensures.turn c.between_turns.ensures.output c.invariant.ensures.kernel_turn c.take_turn.ensures.turn
