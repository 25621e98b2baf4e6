use Rattle.cp_private.proofs.Started.{is_at_start}
use Rattle.cp_private.proofs.private.Private.new.Goals as goal

pub returns-clause-meaning : goal.returns-clause-meaning
returns-clause-meaning c = is_at_start c.args.program.now c.args.p c.first.result c.start.ensures.parts c.requires.first c.requires.last c.first.ensures
