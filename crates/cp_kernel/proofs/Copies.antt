-- The first items of a list, one more at a time.
use Rattle.std.proofs.Common.{◌≡◌, ◌+◌, ◌<◌, ℕ, zero, suc, List, [], ◌∷◌, ◌++◌, length, map, take, get_or, refl, ap, ◌∙◌, arith}

module _ {A B : Type 0} (f : A → B) where
  mapped_one : (ys : List A) (y : A) → map f (ys ++ y ∷ []) ≡ map f ys ++ f y ∷ []
  mapped_one [] y = refl
  mapped_one (x ∷ ys) y = ap (λ (l : List B). f x ∷ l) (mapped_one ys y)

  first_more : (xs : List A) (i : ℕ) (d : A) → i < length xs → map f (take i xs) ++ f (get_or xs i d) ∷ [] ≡ map f (take (suc i) xs)
  first_more [] i d below = absurd (Prim.omega (arith, below))
  first_more (x ∷ xs) zero d below = refl
  first_more (x ∷ xs) (suc i) d below = ap (λ (l : List B). f x ∷ l) (first_more xs i d (Prim.omega (arith, below)))

  -- One more item is copied.
  pub copied_more : (xs ys : List A) (i : ℕ) (x y : A) → i < length xs → x ≡ get_or xs i x → f y ≡ f x → map f ys ≡ map f (take i xs)
      → map f (ys ++ y ∷ []) ≡ map f (take (i + 1) xs)
  copied_more xs ys i x y below here same was =
      let next : suc i ≡ i + 1 = Prim.omega arith in
      mapped_one ys y
      ∙ ((λ j. was j ++ (same ∙ ap f here) j ∷ []) ∙ (first_more xs i x below ∙ ap (λ (n : ℕ). map f (take n xs)) next))

  pub all_copied : (xs : List A) (i : ℕ) → i ≡ length xs → map f (take i xs) ≡ map f xs
  all_copied xs i e = ap (λ (n : ℕ). map f (take n xs)) e ∙ whole xs
    where
      whole : (xs : List A) → map f (take (length xs) xs) ≡ map f xs
      whole [] = refl
      whole (x ∷ xs) = ap (λ (l : List B). f x ∷ l) (whole xs)
