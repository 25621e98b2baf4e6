use Rattle.std.proofs.Common.{◌≡◌, drop}
use Rattle.cp_rules_cutoff.specs.Later.{names_later}
use Rattle.cp_rules.proofs.ending.are_names_later.Given as goal

-- the rest of the names decides
abbrev pub invariant-loop-number : goal.invariant-loop-number
invariant-loop-number l = names_later l.first (drop l.number l.environment.names) ≡ names_later l.fn.first l.fn.environment.names
