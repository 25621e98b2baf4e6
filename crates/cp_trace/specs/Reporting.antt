-- What a trace adds to the buffer that it is written to.
use Rattle.std.specs.Prelude.{◌≡◌, ◌++◌, ◌⊎◌, ◌<◌, ℕ, List, [], ◌∷◌, codes, length}
use Rattle.std.specs.List.{All, concat}
use Rattle.cp_model.specs.Decimal.{natural}
use Rattle.cp_output.specs.Json.{IsJsonLine}

-- The bytes that were there are kept, and some with this property are added behind them.
abbrev pub Adds : (List ℕ → Type 0) → List ℕ → List ℕ → Type 0
Adds P old new = (bytes : List ℕ) × (new ≡ old ++ bytes) × P bytes

abbrev pub IsAnything : List ℕ → Type 0
IsAnything bytes = Unit {0}

abbrev pub IsSomething : List ℕ → Type 0
IsSomething bytes = 0 < length bytes

-- Lines of objects, one behind the other.
abbrev pub AreObjects : List ℕ → Type 0
AreObjects bytes = (lines : List (List ℕ)) × (bytes ≡ concat lines) × All IsJsonLine lines

-- Nothing, or the number of this round on a line and more behind it.
abbrev pub IsRound : ℕ → List ℕ → Type 0
IsRound n bytes = (bytes ≡ []) ⊎ ((lines : List ℕ) × (bytes ≡ codes "round " ++ natural n ++ 10 ∷ lines))
