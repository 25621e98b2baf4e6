use Rattle.cp_scan.proofs.Reserved.{found, passed}
use Rattle.cp_scan.proofs.words.look_up.Goals as goal

pub returns-then-eq : goal.returns-then-eq
returns-then-eq c = found _ _ _ _ c.loop-word-test.true c.loop-word.invariant _ c.eq.ensures c.if-eq.true

pub loop-word-preserved : goal.loop-word-preserved
loop-word-preserved c = passed _ _ _ _ c.loop-word-test.true c.loop-word.invariant _ c.eq.ensures c.if-eq.false
