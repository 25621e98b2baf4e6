-- Writes: what storing a value, or giving a variable its start value, puts into the store.
use Rattle.std.specs.Prelude.{List, [], flat_map, map, zip, ◌∷◌}
use Rattle.cp_model.specs.Abstract.{Name}
use Rattle.cp_model.specs.Types.{ResolvedType, Simple}
use Rattle.cp_model.specs.Declarations.{Variable}
use Rattle.cp_model.specs.Locations.{ByName, Location, under}
use Rattle.cp_model.specs.Stores.{Ordinal, Writes}
use Rattle.cp_model.specs.Leaves.{leaves}
use Rattle.cp_model.specs.Outcomes.{Gives, Outcome, guard}
use Rattle.cp_model.specs.Places.{TypedValue, ordinal_in, ordinal_of, within}

-- A simple value beyond the bounds of its place is fault 1. A structured value is copied leaf by
-- leaf.
abbrev pub writes_of : Location → ResolvedType → TypedValue → Outcome Writes
writes_of at (Simple b low high start) v = guard (within low high (ordinal_of v)) 1 ((at, Ordinal (ordinal_of v)) ∷ [])
writes_of at t v = Gives (zip (map (λ leaf. under at leaf.0) (leaves t)) (map (λ x. Ordinal (ordinal_in x)) v.values))

-- The writes that give variables at a location their start values.
abbrev pub starting_writes : Location → List (Name × Variable) → Writes
starting_writes at variables =
    flat_map (λ v. map (λ leaf. (under at (ByName v.0 ∷ leaf.0), leaf.1)) (leaves v.1.type)) variables
