-- Parts of a list, by where they end.
use Rattle.std.specs.Prelude.{◌≡◌, ◌≤◌, ℕ, zero, suc, List, [], ◌∷◌, None, Option, Some, length, slice_range}
use mathlib.Core.HLevel.{×_prop}
use native.Mathlib.Bridge.{le_prop}
use native.Mathlib.Nat.{ℕ_set}

-- The ends rise from `from` on, and the last one is `last`.
abbrev pub EndAt : ℕ → List ℕ → ℕ → Type 0
EndAt from [] last = from ≡ last
EndAt from (end ∷ ends) last = (from ≤ end) × EndAt end ends last

-- There is at most one proof of it.
pub EndAt-prop : (from : ℕ) (ends : List ℕ) (last : ℕ) → IsProp (EndAt from ends last)
EndAt-prop from [] last = ℕ_set from last
EndAt-prop from (end ∷ ends) last = ×_prop le_prop (EndAt-prop end ends last)

-- The parts that end there cover a list, from its start to its end.
abbrev pub Cover : {X : Type 0} → List ℕ → List X → Type 0
Cover ends xs = EndAt 0 ends (length xs)

-- There is at most one proof of it.
pub Cover-prop : {X : Type 0} → (ends : List ℕ) → (xs : List X) → IsProp (Cover ends xs)
Cover-prop ends xs = EndAt-prop 0 ends (length xs)

-- The parts of a list that end there. The first one begins at `from`.
abbrev pub parts_from : {X : Type 0} → ℕ → List ℕ → List X → List (List X)
parts_from from [] xs = []
parts_from from (end ∷ ends) xs = slice_range xs from end ∷ parts_from end ends xs

-- Where the part at an index begins and ends.
abbrev pub bounds_at : ℕ → List ℕ → ℕ → Option (ℕ × ℕ)
bounds_at from [] index = None
bounds_at from (end ∷ ends) zero = Some (from, end)
bounds_at from (end ∷ ends) (suc index) = bounds_at end ends index
