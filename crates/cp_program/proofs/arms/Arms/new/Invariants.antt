use Rattle.std.proofs.Common.{◌≡◌, ℤ, drop}
use Rattle.std.specs.BTreeMap as tree
use Rattle.std.specs.Ordering.{int_cmp}
use Rattle.cp_program.specs.Labels.{place_of_label}
use Rattle.cp_program.proofs.arms.Arms.new.Given as goal

-- The arms from this one on have been put.
abbrev pub invariant-loop-i : goal.invariant-loop-i
invariant-loop-i l = (n : ℤ) → tree.get int_cmp l.places n ≡ place_of_label (drop l.i l.arms.items) n
