use Rattle.std.proofs.Common.{◌≡◌, vec_len}
use Rattle.cp_rules.proofs.Judging.{ends}
use Rattle.cp_rules.proofs.checker.Checker.arrays.Given as goal

-- the index types that are left lead to the same end as all of them
abbrev pub invariant-loop-index : goal.invariant-loop-index
invariant-loop-index l = ends l.self l.at l.indices.items l.of ≡ ends l.fn.self l.fn.at l.fn.indices.items l.fn.element

abbrev pub decreases-loop-index : goal.decreases-loop-index
decreases-loop-index l = vec_len l.indices
