-- The numbers that decimal digits represent.
use Rattle.std.specs.Prelude.{Bool, ℕ, ◌+◌, ◌-◌, ◌*◌, ◌&&◌, Option, None, Some, List, [], ◌∷◌, if◌then◌else◌, nat_le}

abbrev pub is_digit : ℕ → Bool
is_digit b = nat_le 48 b && nat_le b 57

-- The number whose first digits have the value n and whose other digits are the list, if it is at
-- most `most`. A number only grows with each digit, so once beyond `most` it stays beyond it.
abbrev pub number_from : ℕ → ℕ → List ℕ → Option ℕ
number_from most n [] = Some n
number_from most n (b ∷ bs) =
    if is_digit b && nat_le (10 * n + (b - 48)) most then number_from most (10 * n + (b - 48)) bs else None

abbrev pub at_least : ℕ → Option ℕ → Option ℕ
at_least low None = None
at_least low (Some n) = if nat_le low n then Some n else None

-- At least one digit, and only digits.
abbrev pub number_within : ℕ → ℕ → List ℕ → Option ℕ
number_within low most [] = None
number_within low most (b ∷ bs) = at_least low (number_from most 0 (b ∷ bs))
