-- Look-ups in a list of which one element is set, or that is mapped.
use Rattle.std.proofs.Common.{◌≡◌, ◌<◌, ◌-◌, ℕ, zero, suc, List, [], ◌∷◌, length, map, Some, refl, ap, sym, arith}
use Rattle.std.specs.Prelude.{slice_get, slice_set}
use Rattle.cp_model.proofs.Options.{same_some}
use Rattle.cp_model_machine.proofs.Finding.{some_is_not_none}

-- The index of the element with a number, where numbers begin with 1.
pub one_less : (n : ℕ) → suc n - 1 ≡ n
one_less n = omega arith

pub set_there : {A : Type 0} (xs : List A) (i : ℕ) (x : A) → i < length xs → slice_get (slice_set xs i x) i ≡ Some x
set_there [] i x h = absurd (omega (arith, h))
set_there (y ∷ xs) zero x h = refl
set_there (y ∷ xs) (suc i) x h = set_there xs i x (omega (arith, h))

pub set_elsewhere : {A : Type 0} (xs : List A) (i j : ℕ) (x : A) → (i ≡ j → ⊥) → slice_get (slice_set xs i x) j ≡ slice_get xs j
set_elsewhere [] i j x d = refl
set_elsewhere (y ∷ xs) zero zero x d = absurd (d refl)
set_elsewhere (y ∷ xs) zero (suc j) x d = refl
set_elsewhere (y ∷ xs) (suc i) zero x d = refl
set_elsewhere (y ∷ xs) (suc i) (suc j) x d = set_elsewhere xs i j x (λ e. d (ap (λ n. suc n) e))

-- What is found where it was set.
pub set_found : {A : Type 0} (xs : List A) (i : ℕ) (x y : A) → slice_get (slice_set xs i x) i ≡ Some y → x ≡ y
set_found [] i x y h = absurd (some_is_not_none y (sym h))
set_found (z ∷ xs) zero x y h = same_some x y h
set_found (z ∷ xs) (suc i) x y h = set_found xs i x y h

pub mapped_found : {A B : Type 0} (f : A → B) (xs : List A) (i : ℕ) (y : B) → slice_get (map f xs) i ≡ Some y → (x : A) × (slice_get xs i ≡ Some x) × (f x ≡ y)
mapped_found f [] i y h = absurd (some_is_not_none y (sym h))
mapped_found f (x ∷ xs) zero y h = (x, refl, same_some (f x) y h)
mapped_found f (x ∷ xs) (suc i) y h = mapped_found f xs i y h
