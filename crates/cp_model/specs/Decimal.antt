-- Decimal digits, as `display` and the report write them.
use Rattle.std.specs.Prelude.{List, [], if◌then◌else◌, nat_lt, negsuc, pos, suc, zero, ℕ, ℤ, ◌%◌, ◌+◌, ◌/◌, ◌∷◌}

-- The decimal digits of a number, followed by a text. The first argument limits how many digits
-- there are.
abbrev pub digits : ℕ → ℕ → List ℕ → List ℕ
digits zero n text = text
digits (suc k) n text = if nat_lt n 10 then (48 + n) ∷ text else digits k (n / 10) ((48 + n % 10) ∷ text)

abbrev pub natural : ℕ → List ℕ
natural n = digits (suc n) n []

-- A negative integer begins with `-`.
abbrev pub decimal : ℤ → List ℕ
decimal (pos n) = natural n
decimal (negsuc n) = 45 ∷ natural (suc n)
