-- When the comparison of two integers finds them equal.
use Rattle.std.proofs.Common.{◌≡◌, ℤ, pos, negsuc, Bool, true, false, refl, ap, arith, eqb-true}
use Prim.{grind}
use Rattle.cp_model.specs.Integers.{same_integer}

pub equal_integers : (m n : ℤ) → same_integer m n ≡ true → m ≡ n
equal_integers (pos m) (pos n) h = ap pos (eqb-true m n h)
equal_integers (negsuc m) (negsuc n) h = ap negsuc (eqb-true m n h)
equal_integers (pos m) (negsuc n) h = absurd (cc)
equal_integers (negsuc m) (pos n) h = absurd (cc)

pub differ : (a b : ℤ) → (a ≡ b → ⊥) → same_integer a b ≡ false
differ a b h = go (same_integer a b) refl
  where
    go : (t : Bool) → same_integer a b ≡ t → t ≡ false
    go true e = absurd (h (equal_integers a b e))
    go false e = refl

pub alike : (a : ℤ) → same_integer a a ≡ true
alike (pos n) = grind (arith)
alike (negsuc n) = grind (arith)
