use Rattle.std.proofs.Common.{◌+◌, arith}
use Rattle.cp_private.proofs.private.Private.settle.Goals as goal

pub returns-clause-step : goal.returns-clause-step
returns-clause-step c =
    λ input. c.move_words.ensures.step input (c.args.to + 1) (c.args.from + 1) (omega (arith, c.requires.to)) (omega (arith, c.requires.from))
