-- Lists with one more item.
use Rattle.std.specs.Prelude.{List, Some, [], length, refl, slice_get, suc, zero, ℕ, ◌++◌, ◌∷◌, ◌≡◌, ◌<◌}
use Rattle.std.proofs.Common.{ap, arith, ◌⊎◌, inl, inr, ⊎_elim}
use Rattle.cp_model.proofs.Options.{same_some}
use Rattle.cp_law_cores.proofs.Parts.{none_is}

module _ {X : Type 0} where
  pub longer : (xs : List X) (x : X) → length (xs ++ x ∷ []) ≡ suc (length xs)
  longer [] x = refl
  longer (y ∷ xs) x = ap suc (longer xs x)

  pub got_snoc : (ys : List X) (b : X) (i : ℕ) (y : X) → slice_get (ys ++ b ∷ []) i ≡ Some y
      → (slice_get ys i ≡ Some y) ⊎ ((i ≡ length ys) × (b ≡ y))
  got_snoc [] b zero y e = inr (refl, same_some b y e)
  got_snoc [] b (suc i) y e = absurd (none_is y e)
  got_snoc (x ∷ ys) b zero y e = inl e
  got_snoc (x ∷ ys) b (suc i) y e =
      ⊎_elim (λ (h : slice_get ys i ≡ Some y). inl h) (λ (h : (i ≡ length ys) × (b ≡ y)). inr (ap suc h.0, h.1)) (got_snoc ys b i y e)

  pub got_below : (xs : List X) (i : ℕ) (x : X) → slice_get xs i ≡ Some x → i < length xs
  got_below [] i x e = absurd (none_is x e)
  got_below (y ∷ xs) zero x e = omega arith
  got_below (y ∷ xs) (suc i) x e = let below = got_below xs i x e in omega arith
