use Rattle.cp_output.proofs.Counting.{positions}
use Rattle.cp_output.proofs.law.positions_count.Goals as goal

pub returns : goal.returns
returns c = positions
