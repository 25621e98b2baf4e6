-- The items of a list that has grown by one, or that has another item in one place.
use Rattle.std.specs.Prelude.{◌≡◌, ◌≢◌, refl, ℕ, zero, suc, ◌<◌, ◌≤◌, List, [], ◌∷◌, ◌++◌, length, map, Some, None, slice_get}
use Rattle.std.proofs.Common.{sym, ap, subst, arith, ◌⊎◌, inl, inr, ⊎_elim, set, get_or}
use Rattle.cp_model.proofs.Options.{same_some}

module _ {X : Type 0} where
  pub none_some : (y : X) → None ≡ Some y → ⊥
  none_some y e = Prim.grind arith

  pub got_snoc : (ys : List X) (b : X) (i : ℕ) (y : X) → slice_get (ys ++ b ∷ []) i ≡ Some y
      → (slice_get ys i ≡ Some y) ⊎ ((i ≡ length ys) × (b ≡ y))
  got_snoc [] b zero y e = inr (refl, same_some b y e)
  got_snoc [] b (suc i) y e = absurd (none_some y e)
  got_snoc (x ∷ ys) b zero y e = inl e
  got_snoc (x ∷ ys) b (suc i) y e =
      ⊎_elim (λ (h : slice_get ys i ≡ Some y). inl h) (λ (h : (i ≡ length ys) × (b ≡ y)). inr (ap suc h.0, h.1)) (got_snoc ys b i y e)

  -- What holds of each item also holds with one more item, if it holds of that item.
  pub each_more : (P : ℕ → X → Type 0) (ys : List X) (b : X)
      → ((i : ℕ) (y : X) → slice_get ys i ≡ Some y → P i y) → P (length ys) b
      → (i : ℕ) (y : X) → slice_get (ys ++ b ∷ []) i ≡ Some y → P i y
  each_more P ys b was h i y e =
      ⊎_elim (λ (z : slice_get ys i ≡ Some y). was i y z)
      (λ (z : (i ≡ length ys) × (b ≡ y)). subst (λ (w : X). P i w) z.1 (subst (λ (j : ℕ). P j b) (sym z.0) h))
      (got_snoc ys b i y e)

  pub got_below : (xs : List X) (i : ℕ) (x : X) → slice_get xs i ≡ Some x → i < length xs
  got_below [] i x e = absurd (none_some x e)
  got_below (y ∷ xs) zero x e = Prim.omega arith
  got_below (y ∷ xs) (suc i) x e = let h = got_below xs i x e in Prim.omega arith

  pub got_set : (xs : List X) (i k : ℕ) (y x : X) → slice_get (set xs i y) k ≡ Some x
      → ((k ≡ i) × (y ≡ x)) ⊎ ((k ≢ i) × (slice_get xs k ≡ Some x))
  got_set [] i k y x e = absurd (none_some x e)
  got_set (z ∷ xs) zero zero y x e = inl (refl, same_some y x e)
  got_set (z ∷ xs) zero (suc k) y x e = inr ((λ h. Prim.grind (arith, h)), e)
  got_set (z ∷ xs) (suc i) zero y x e = inr ((λ h. Prim.grind (arith, h)), e)
  got_set (z ∷ xs) (suc i) (suc k) y x e =
      ⊎_elim (λ (h : (k ≡ i) × (y ≡ x)). inl (ap suc h.0, h.1))
      (λ (h : (k ≢ i) × (slice_get xs k ≡ Some x)). inr ((λ f. h.0 (Prim.omega (arith, f))), h.1)) (got_set xs i k y x e)

  pub got_or : (xs : List X) (i : ℕ) (d : X) → i < length xs → slice_get xs i ≡ Some (get_or xs i d)
  got_or [] i d h = absurd (Prim.omega arith)
  got_or (y ∷ xs) zero d h = refl
  got_or (y ∷ xs) (suc i) d h = got_or xs i d (Prim.omega arith)

  pub got_at : (xs : List X) (i : ℕ) → i < length xs → (x : X) × (slice_get xs i ≡ Some x)
  got_at [] i h = absurd (Prim.omega arith)
  got_at (x ∷ xs) zero h = (x, refl)
  got_at (x ∷ xs) (suc i) h = got_at xs i (Prim.omega arith)

  pub got_left : (xs ys : List X) (i : ℕ) (x : X) → slice_get xs i ≡ Some x → slice_get (xs ++ ys) i ≡ Some x
  got_left [] ys i x e = absurd (none_some x e)
  got_left (z ∷ xs) ys zero x e = e
  got_left (z ∷ xs) ys (suc i) x e = got_left xs ys i x e

pub mapped_get : {X Y : Type 0} (f : X → Y) (xs : List X) (i : ℕ) (x : X) → slice_get xs i ≡ Some x → slice_get (map f xs) i ≡ Some (f x)
mapped_get f [] i x e = absurd (none_some x e)
mapped_get f (z ∷ xs) zero x e = ap (λ y. Some (f y)) (same_some z x e)
mapped_get f (z ∷ xs) (suc i) x e = mapped_get f xs i x e

-- ---- Indexes

pub below_or : (j i : ℕ) → j ≤ i → (j < i) ⊎ (j ≡ i)
below_or zero zero le = inr refl
below_or zero (suc i) le = inl (Prim.omega arith)
below_or (suc j) zero le = absurd (Prim.omega (arith, le))
below_or (suc j) (suc i) le =
    ⊎_elim (λ (h : j < i). inl (Prim.omega (arith, h))) (λ (h : j ≡ i). inr (ap suc h)) (below_or j i (Prim.omega (arith, le)))

pub below_or_from : (j i : ℕ) → (j < i) ⊎ (i ≤ j)
below_or_from j zero = inr (Prim.omega arith)
below_or_from zero (suc i) = inl (Prim.omega arith)
below_or_from (suc j) (suc i) = ⊎_elim (λ (h : j < i). inl (Prim.omega (arith, h))) (λ (h : i ≤ j). inr (Prim.omega (arith, h))) (below_or_from j i)

pub zero_or : (n : ℕ) → (n ≡ 0) ⊎ (n ≢ 0)
zero_or zero = inl refl
zero_or (suc n) = inr (λ e. Prim.omega (arith, e))
