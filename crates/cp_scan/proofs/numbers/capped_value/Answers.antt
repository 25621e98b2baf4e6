use Rattle.cp_scan.proofs.Values.{capped_at_end}
use Rattle.cp_scan.proofs.numbers.capped_value.Goals as goal

pub returns : goal.returns
returns c = capped_at_end _ _ _ c.loop-b.invariant.so_far c.loop-b-test.false
