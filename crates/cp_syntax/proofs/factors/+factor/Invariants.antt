use Rattle.cp_syntax.proofs.factors.+factor.Given as goal

abbrev pub decreases-factor : goal.decreases-factor
decreases-factor l = l.room
