use Rattle.cp_kernel.proofs.Meant.{ends_round}
use Rattle.cp_kernel.proofs.closing.end_round.Goals as goal

pub returns-clause-meaning : goal.returns-clause-meaning
returns-clause-meaning c =
    ends_round c.args.program.now c.args.kernel.now c.close.new.kernel c.args.privates.now c.close.new.privates c.rounds.ensures.end
    c.close.ensures.kernel c.close.ensures.parts
