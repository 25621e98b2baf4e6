-- The inputs of the processes: the input is cut at each byte 28, and part k is the input of process k.
use Rattle.std.specs.Prelude.{List, [], if◌then◌else◌, nat_eq, suc, zero, ℕ, ◌∷◌}

-- Part k, counted from 1. A missing part is empty.
abbrev pub cut : List ℕ → ℕ → List ℕ
cut [] k = []
cut (b ∷ bs) zero = []
cut (b ∷ bs) (suc zero) = if nat_eq b 28 then [] else b ∷ cut bs 1
cut (b ∷ bs) (suc (suc k)) = if nat_eq b 28 then cut bs (suc k) else cut bs (suc (suc k))
