-- Lists by their indices.
use Rattle.std.specs.List.{HoldsAt}
use Rattle.std.specs.Option.{MatchOption, option_copied}
use Rattle.std.proofs.lemmas.Option.{slice_get_past, slice_get-get_or}
use Rattle.std.proofs.Common.{◌≡◌, ◌<◌, ◌≤◌, ◌+◌, ℕ, zero, suc, List, [], ◌∷◌, Option, None, Some, length, take, drop, slice_get, Bor, refl, arith, ap, sym, ◌∙◌}

pub slice_get_take : {X : Type 0} (n : ℕ) (xs : List X) (i : ℕ) → i < n → slice_get (take n xs) i ≡ slice_get xs i
slice_get_take zero xs i within = absurd (omega arith)
slice_get_take (suc n) [] i within = refl
slice_get_take (suc n) (x ∷ xs) zero within = refl
slice_get_take (suc n) (x ∷ xs) (suc i) within = slice_get_take n xs i (omega arith)

pub slice_get_take_past : {X : Type 0} (n : ℕ) (xs : List X) (i : ℕ) → n ≤ i → slice_get (take n xs) i ≡ None
slice_get_take_past zero xs i past = refl
slice_get_take_past (suc n) [] i past = refl
slice_get_take_past (suc n) (x ∷ xs) zero past = absurd (omega arith)
slice_get_take_past (suc n) (x ∷ xs) (suc i) past = slice_get_take_past n xs i (omega arith)

pub slice_get_drop : {X : Type 0} (n : ℕ) (xs : List X) (i j : ℕ) → n + i ≡ j → slice_get (drop n xs) i ≡ slice_get xs j
slice_get_drop zero xs i j same = let e : i ≡ j = omega arith in ap (slice_get xs) e
slice_get_drop (suc n) [] i j same = refl
slice_get_drop (suc n) (x ∷ xs) i zero same = absurd (omega arith)
slice_get_drop (suc n) (x ∷ xs) i (suc j) same = slice_get_drop n xs i j (omega arith)

-- an element that is copied from a slice
pub copied_get : {X : Type 0} (xs : List X) (i : ℕ) (r : Option (Bor X)) → MatchOption r (length xs ≤ i) (λ x. (i < length xs) × HoldsAt (λ y. x.now ≡ y) xs i)
    → option_copied r ≡ slice_get xs i
copied_get xs i None h = sym (slice_get_past xs i h)
copied_get xs i (Some x) h = sym (slice_get-get_or xs i x.now h.0 ∙ ap Some (sym (h.1 x.now)))
