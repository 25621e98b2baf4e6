use Rattle.cp_rounds_workers.proofs.wave.+deal.Given as goal

abbrev pub decreases-deal : goal.decreases-deal
decreases-deal g l = l.seats
