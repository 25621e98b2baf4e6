use Rattle.cp_outcome.specs.Verdicts.{done}
use Rattle.cp_outcome.proofs.Testing.{PassBelow}
use Rattle.cp_outcome.proofs.verdict.all_are_done.Given as goal

abbrev pub invariant-loop-i : goal.invariant-loop-i
invariant-loop-i l = PassBelow (done l.servers) l.machine l.i
