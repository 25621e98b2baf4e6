use Rattle.cp_kernel.proofs.Meant.{is_at_start}
use Rattle.cp_kernel.proofs.kernel.Kernel.new.Goals as goal

pub returns-clause-meaning : goal.returns-clause-meaning
returns-clause-meaning c = is_at_start c.args.program.now c.first.result c.start.ensures.kernel c.first.ensures.start
