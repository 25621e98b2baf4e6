use Rattle.std.proofs.Common.{◌≡◌, ℕ, length, map}
use Rattle.cp_program.specs.Reaches.{elements_place, view_with}
use Rattle.cp_program.specs.View as view
use Rattle.cp_program.proofs.flat.fast_place_of_element.Given as goal

-- The indices that are left lead from the place so far to the place of all indices.
abbrev pub invariant-loop-i : goal.invariant-loop-i
invariant-loop-i g l =
    (clock : ℕ) → elements_place (view_with l.memory l.shared clock) l.at (map view.index l.left)
    ≡ elements_place (view_with l.fn.memory l.fn.shared clock) l.fn.from (map view.index l.fn.indices)

abbrev pub decreases-loop-i : goal.decreases-loop-i
decreases-loop-i g l = length l.left
