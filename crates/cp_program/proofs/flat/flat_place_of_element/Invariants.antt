use Rattle.std.proofs.Common.{◌≡◌, ℕ, drop, map}
use Rattle.cp_program.specs.Reaches.{elements_place, view_with}
use Rattle.cp_program.specs.View as view
use Rattle.cp_program.proofs.flat.flat_place_of_element.Given as goal

-- The remaining indices lead from the place so far to the place of all indices.
abbrev pub invariant-loop-i : goal.invariant-loop-i
invariant-loop-i g l =
    (clock : ℕ) → elements_place (view_with l.memory l.shared clock) l.at (map view.index (drop l.i-index l.indices))
    ≡ elements_place (view_with l.fn.memory l.fn.shared clock) l.fn.from (map view.index l.fn.indices)
