use Rattle.std.proofs.Common.{◌≡◌, drop}
use Rattle.cp_rules_cutoff.specs.Later.{routines_later}
use Rattle.cp_rules.proofs.ending.are_routines_later.Given as goal

-- the rest of the routines decides
abbrev pub invariant-loop-number : goal.invariant-loop-number
invariant-loop-number l = routines_later l.first (drop l.number l.environment.routines) ≡ routines_later l.fn.first l.fn.environment.routines
