-- Lists of draws: the numbers that a seat was given, in the order in which it was given them.
use Rattle.std.specs.Prelude.{◌≢◌, ℕ, ◌+◌, ◌<◌, ◌==◌, if◌then◌else◌, All, AllPairs, Contains, List, [], ◌∷◌}

-- each number is below n, and no two are the same
pub record IsSound (n : ℕ) (draws : List ℕ) : Type 0 where
  pub below : All (λ x. x < n) draws
  pub distinct : AllPairs (λ x y. x ≢ y) draws

-- every number below n is in the list
abbrev pub IsWhole : ℕ → List ℕ → Type 0
IsWhole n draws = (x : ℕ) → x < n → Contains draws x

-- how many times x is in the list
abbrev pub times : ℕ → List ℕ → ℕ
times x [] = 0
times x (y ∷ ys) = (if x == y then 1 else 0) + times x ys
