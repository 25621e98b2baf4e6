-- A value that stops growing at 32768 is the value of the digits, capped at 32768.
use Rattle.std.proofs.Common.{◌≡◌, ℕ, ◌+◌, ◌-◌, ◌*◌, ◌≤◌, min, List, [], ◌∷◌, drop, length, refl, sym, ◌∙◌, ap, arith}
use Rattle.std.proofs.lemmas.List.{at_drop_all}
use Rattle.std.specs.List.{fold}
use Rattle.cp_model.specs.Characters.{decimal_value}

-- the value so far, continued with the rest of the digits
abbrev pub capped_from : ℕ → List ℕ → ℕ
capped_from = fold (λ n b. min (10 * n + (b - 48)) 32768)

capped_step : (n d : ℕ) → min (10 * min n 32768 + d) 32768 ≡ min (10 * n + d) 32768
capped_step n d = omega arith

capped_is : (n : ℕ) (digits : List ℕ) → capped_from (min n 32768) digits ≡ min (fold (λ n b. 10 * n + (b - 48)) n digits) 32768
capped_is n [] = refl
capped_is n (b ∷ digits) = ap (λ (v : ℕ). capped_from v digits) (capped_step n (b - 48)) ∙ capped_is (10 * n + (b - 48)) digits

-- at the end of the loop over the digits
pub capped_at_end : (value i : ℕ) (digits : List ℕ) → capped_from value (drop i digits) ≡ capped_from 0 digits → length digits ≤ i
    → value ≡ min (decimal_value digits) 32768
capped_at_end value i digits so_far end = sym (at_drop_all (capped_from value) digits i end) ∙ so_far ∙ capped_is 0 digits
