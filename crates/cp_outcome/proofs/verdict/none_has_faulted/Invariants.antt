use Rattle.cp_outcome.specs.Verdicts.{sound}
use Rattle.cp_outcome.proofs.Testing.{PassBelow}
use Rattle.cp_outcome.proofs.verdict.none_has_faulted.Given as goal

abbrev pub invariant-loop-i : goal.invariant-loop-i
invariant-loop-i l = PassBelow (λ p. sound) l.machine l.i
