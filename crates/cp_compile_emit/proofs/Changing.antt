-- Lists with a changed item.
use Rattle.std.proofs.Common.{◌≡◌, ◌≤◌, ◌<◌, ℕ, zero, suc, List, [], ◌∷◌, ◌++◌, length, map, refl, ap, arith}
use Rattle.std.proofs.Math.ListN.{get_or, set}
use Rattle.cp_compile_emit.specs.Emission.{changed_at}

pub changed_past : {A : Type 0} (n : ℕ) (f : A → A) (xs : List A) → length xs ≤ n → xs ≡ changed_at n f xs
changed_past n f [] h = refl
changed_past zero f (x ∷ xs) h = absurd (omega arith)
changed_past (suc n) f (x ∷ xs) h = ap (λ ys. x ∷ ys) (changed_past n f xs (omega arith))

pub changed_set : {A B : Type 0} (g : A → B) (f : B → B) (xs : List A) (n : ℕ) (y d : A) → n < length xs → g y ≡ f (g (get_or xs n d))
    → map g (set xs n y) ≡ changed_at n f (map g xs)
changed_set g f [] n y d h e = absurd (omega arith)
changed_set g f (x ∷ xs) zero y d h e = ap (λ z. z ∷ map g xs) e
changed_set g f (x ∷ xs) (suc n) y d h e = ap (λ ys. g x ∷ ys) (changed_set g f xs n y d (omega arith) e)

pub length-changed : {A : Type 0} (n : ℕ) (f : A → A) (xs : List A) → length (changed_at n f xs) ≡ length xs
length-changed n f [] = refl
length-changed zero f (x ∷ xs) = refl
length-changed (suc n) f (x ∷ xs) = ap suc (length-changed n f xs)

-- The item after the first list is the one that changes.
pub changed_between : {A : Type 0} (f : A → A) (xs : List A) (x : A) (ys : List A)
    → changed_at (length xs) f (xs ++ x ∷ ys) ≡ xs ++ f x ∷ ys
changed_between f [] x ys = refl
changed_between f (z ∷ zs) x ys = ap (λ l. z ∷ l) (changed_between f zs x ys)
