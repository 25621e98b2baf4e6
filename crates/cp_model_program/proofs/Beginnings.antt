-- Lists that begin others, and what is where in them.
use Rattle.std.proofs.Common.{◌≡◌, ◌<◌, ◌⊎◌, inl, inr, ℕ, zero, suc, List, [], ◌∷◌, ◌++◌, Some, refl, ap, sym, ◌∙◌, slice_get, length, arith, append_assoc, append-nil}

pub record Begins {A : Type 0} (xs ys : List A) : Type 0 where
  pub rest : List A
  pub is : ys ≡ xs ++ rest

pub begins_same : {A : Type 0} (xs : List A) → Begins xs xs
begins_same xs = record { rest = []; is = sym (append-nil xs) }

pub begins_first : {A : Type 0} (xs zs ys : List A) → Begins (xs ++ zs) ys → Begins xs ys
begins_first xs zs ys h = record { rest = zs ++ h.rest; is = h.is ∙ append_assoc xs zs h.rest }

pub begins_on : {A : Type 0} (xs ys zs : List A) → Begins xs ys → Begins ys zs → Begins xs zs
begins_on xs ys zs h k = record { rest = h.rest ++ k.rest; is = k.is ∙ ap (λ l. l ++ k.rest) h.is ∙ append_assoc xs h.rest k.rest }

get_first : {A : Type 0} (xs zs : List A) (n : ℕ) (x : A) → slice_get xs n ≡ Some x → slice_get (xs ++ zs) n ≡ Some x
get_first [] zs n x h = absurd (cc)
get_first (y ∷ xs) zs zero x h = h
get_first (y ∷ xs) zs (suc n) x h = get_first xs zs n x h

pub begins_get : {A : Type 0} (xs ys : List A) → Begins xs ys → (n : ℕ) (x : A) → slice_get xs n ≡ Some x → slice_get ys n ≡ Some x
begins_get xs ys h n x e = ap (λ l. slice_get l n) h.is ∙ get_first xs h.rest n x e

pub get_seam : {A : Type 0} (xs : List A) (x : A) (zs : List A) → slice_get (xs ++ x ∷ zs) (length xs) ≡ Some x
get_seam [] x zs = refl
get_seam (y ∷ xs) x zs = get_seam xs x zs

pub get_some : {A : Type 0} (xs : List A) (n : ℕ) → n < length xs → (x : A) × (slice_get xs n ≡ Some x)
get_some [] n h = absurd (omega (arith, h))
get_some (x ∷ xs) zero h = (x, refl)
get_some (x ∷ xs) (suc n) h = get_some xs n (omega (arith, h))

pub get_less : {A : Type 0} (xs : List A) (n : ℕ) (x : A) → slice_get xs n ≡ Some x → n < length xs
get_less [] n x h = absurd (cc)
get_less (y ∷ xs) zero x h = omega arith
get_less (y ∷ xs) (suc n) x h = omega (arith, get_less xs n x h)

pub last_or_before : {A : Type 0} (xs : List A) (x : A) (n : ℕ) (y : A) → slice_get (xs ++ x ∷ []) n ≡ Some y → (slice_get xs n ≡ Some y) ⊎ ((n ≡ length xs) × (Some x ≡ Some y))
last_or_before [] x zero y h = inr (refl, h)
last_or_before [] x (suc n) y h = absurd (cc)
last_or_before (z ∷ xs) x zero y h = inl h
last_or_before (z ∷ xs) x (suc n) y h = elim (last_or_before xs x n y h) [
  | inl k ↦ inl k
  | inr k ↦ inr (ap suc k.0, k.1)
]
