-- The places of numbers, as arms are put among them.
use Rattle.std.proofs.Common.{◌≡◌, ℕ, zero, suc, ℤ, pos, List, [], ◌∷◌, Some, None, refl, ap, sym, ◌∙◌, Bool, true, false, if◌then◌else◌, arith}
use Prim.{grind}
use Rattle.std.specs.Prelude.{◌+ℤ◌, int_le, replicate}
use Rattle.std.proofs.Math.ListN.{set}
use Rattle.std.proofs.lemmas.Int.{ints}
use Rattle.cp_model.specs.Integers.{same_integer}
use Rattle.cp_model.proofs.SameIntegers.{alike, differ}
use Rattle.cp_model_program.specs.Programs.{Arm}
use Rattle.cp_model_program.specs.Layout.{distance}
use Rattle.cp_model_program.specs.Tables.{arm_at}
use Rattle.cp_model_program.specs.CodedStatements.{places_from}

-- ---- Places

-- An arm whose label is below all numbers gives none of them a place.
none_put : (xs : List Arm) (x : Arm) (low : ℤ) (n : ℕ) → int_le low x.label ≡ false → places_from xs low n ≡ places_from (x ∷ xs) low n
none_put xs x low zero h = refl
none_put xs x low (suc n) h = λ i.
    (if sym (differ x.label low (λ e. grind (arith, h, e))) i then Some x.place else arm_at xs low)
    ∷ none_put xs x (low +ℤ pos 1) n (grind (arith, ints, h)) i

one_put : (xs : List Arm) (x : Arm) (k : ℕ) (low : ℤ) (n : ℕ) → x.label ≡ low +ℤ pos k
    → set (places_from xs low n) k (Some x.place) ≡ places_from (x ∷ xs) low n
one_put xs x k low zero e = refl
one_put xs x zero low (suc n) e =
    let there : x.label ≡ low = grind (arith, ints, e) in
    λ i. (if sym (ap (λ a. same_integer a low) there ∙ alike low) i then Some x.place else arm_at xs low)
    ∷ none_put xs x (low +ℤ pos 1) n (grind (arith, ints, there)) i
one_put xs x (suc k) low (suc n) e = λ i.
    (if sym (differ x.label low (λ h. grind (arith, ints, e, h))) i then Some x.place else arm_at xs low)
    ∷ one_put xs x k (low +ℤ pos 1) n (grind (arith, ints, e)) i

pub arm_put : (xs : List Arm) (x : Arm) (low : ℤ) (n : ℕ)
    → (if int_le low x.label then set (places_from xs low n) (distance low x.label) (Some x.place) else places_from xs low n)
    ≡ places_from (x ∷ xs) low n
arm_put xs x low n = go (int_le low x.label) refl
  where
    go : (b : Bool) → int_le low x.label ≡ b
        → (if b then set (places_from xs low n) (distance low x.label) (Some x.place) else places_from xs low n) ≡ places_from (x ∷ xs) low n
    go true h = one_put xs x (distance low x.label) low n (grind (arith, ints, h))
    go false h = none_put xs x low n h

-- Without arms, no number has a place.
pub none_left : (low : ℤ) (n : ℕ) → replicate n None ≡ places_from [] low n
none_left low zero = refl
none_left low (suc n) = ap (λ ps. None ∷ ps) (none_left (low +ℤ pos 1) n)
