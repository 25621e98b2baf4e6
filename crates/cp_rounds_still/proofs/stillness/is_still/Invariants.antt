use Rattle.cp_rounds_still.specs.Stillness.{RestBelow}
use Rattle.cp_rounds_still.proofs.stillness.is_still.Given as goal

abbrev pub invariant-loop-i : goal.invariant-loop-i
invariant-loop-i l = RestBelow l.machine l.i
