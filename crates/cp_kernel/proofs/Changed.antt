-- Lists whose first items have been changed.
use Rattle.std.proofs.Common.{◌≡◌, ◌+◌, ℕ, zero, suc, List, [], ◌∷◌, Option, Some, None, slice_get, slice_set, length, map, refl, ap, ◌∙◌, sym, arith}
use Rattle.std.specs.Prelude.{option_map, slice_index_or}
use Rattle.cp_model.proofs.Options.{same_some}
use Rattle.cp_private.specs.States.{private_of}
use Rattle.cp_private.specs.declared.private.Private.{Private}
use Rattle.cp_kernel.specs.Turns.{parts_of}

abbrev pub changed_below : {A : Type 0} → (A → A) → ℕ → List A → List A
changed_below f zero xs = xs
changed_below f (suc i) [] = []
changed_below f (suc i) (x ∷ xs) = f x ∷ changed_below f i xs

module _ {A : Type 0} (f : A → A) where
  pub next_changed : (i : ℕ) (xs : List A) (x : A) → slice_get xs i ≡ Some x → slice_set (changed_below f i xs) i (f x) ≡ changed_below f (suc i) xs
  next_changed zero [] x there = refl
  next_changed zero (y ∷ xs) x there = ap (λ z. f z ∷ xs) (sym (same_some y x there))
  next_changed (suc i) [] x there = refl
  next_changed (suc i) (y ∷ xs) x there = ap (λ zs. f y ∷ zs) (next_changed i xs x there)

  pub got_changed : (i : ℕ) (xs : List A) → slice_get (changed_below f i xs) i ≡ slice_get xs i
  got_changed zero xs = refl
  got_changed (suc i) [] = refl
  got_changed (suc i) (x ∷ xs) = got_changed i xs

  pub all_changed : (xs : List A) → changed_below f (length xs) xs ≡ map f xs
  all_changed [] = refl
  all_changed (x ∷ xs) = ap (λ ys. f x ∷ ys) (all_changed xs)

-- If the item that is set looks the same, so do all items.
pub same_at : {A B : Type 0} (f : A → B) (xs : List A) (i : ℕ) (d y : A) → f y ≡ f (slice_index_or xs i d) → map f (slice_set xs i y) ≡ map f xs
same_at f [] i d y same = refl
same_at f (x ∷ xs) zero d y same = ap (λ z. z ∷ map f xs) same
same_at f (x ∷ xs) (suc i) d y same = ap (λ zs. f x ∷ zs) (same_at f xs i d y same)

-- ---- Private states with their inputs

module _ (inputs : ℕ → List ℕ) where
  pub parts_got : (p : ℕ) (xs : List Private) (i : ℕ) (x : Private) → slice_get xs i ≡ Some x → slice_get (parts_of inputs p xs) i ≡ Some (private_of x (inputs (p + i)))
  parts_got p [] i x there = absurd (cc)
  parts_got p (y ∷ xs) zero x there = (λ i. ap (λ (o : Option Private). option_map (λ z. private_of z (inputs p)) o) there i) ∙ ap (λ n. Some (private_of x (inputs n))) (no_more p)
    where
      no_more : (n : ℕ) → n ≡ n + 0
      no_more n = omega arith
  parts_got p (y ∷ xs) (suc i) x there = parts_got (suc p) xs i x there ∙ ap (λ n. Some (private_of x (inputs n))) (one_more p i)
    where
      one_more : (n m : ℕ) → suc n + m ≡ n + suc m
      one_more n m = omega arith

  pub parts_set : (p : ℕ) (xs : List Private) (i : ℕ) (y : Private) → parts_of inputs p (slice_set xs i y) ≡ slice_set (parts_of inputs p xs) i (private_of y (inputs (p + i)))
  parts_set p [] i y = refl
  parts_set p (x ∷ xs) zero y = ap (λ n. private_of y (inputs n) ∷ parts_of inputs (suc p) xs) (no_more p)
    where
      no_more : (n : ℕ) → n ≡ n + 0
      no_more n = omega arith
  parts_set p (x ∷ xs) (suc i) y = ap (λ zs. private_of x (inputs p) ∷ zs) (parts_set (suc p) xs i y ∙ ap (λ n. slice_set (parts_of inputs (suc p) xs) i (private_of y (inputs n))) (one_more p i))
    where
      one_more : (n m : ℕ) → suc n + m ≡ n + suc m
      one_more n m = omega arith

  pub parts_count : (p : ℕ) (xs : List Private) → length (parts_of inputs p xs) ≡ length xs
  parts_count p [] = refl
  parts_count p (x ∷ xs) = ap suc (parts_count (suc p) xs)
