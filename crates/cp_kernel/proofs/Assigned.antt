-- Lists that are made the same as others, one item after another.
use Rattle.std.proofs.Common.{List, [], ℕ, ap, sym, map, take, ◌≡◌, ◌++◌, ◌∷◌, ◌+◌, ◌<◌, ◌∙◌, length, slice_set}
use Rattle.std.specs.Prelude.{slice_index_or}
use Rattle.std.proofs.lemmas.List.{map-append, take_more, take_more_set}

module _ {A B : Type 0} (f : A → B) where
  -- One more item is the same.
  pub assigned_more : (xs ys : List A) (i : ℕ) (y d : A) → i < length xs → i < length ys → f y ≡ f (slice_index_or ys i d)
      → map f (take i xs) ≡ map f (take i ys) → map f (take (i + 1) (slice_set xs i y)) ≡ map f (take (i + 1) ys)
  assigned_more xs ys i y d below there same was =
      ap (map f) (take_more_set xs i y below)
      ∙ (map-append f (take i xs) (y ∷ [])
      ∙ ((λ j. was j ++ same j ∷ [])
      ∙ (sym (map-append f (take i ys) (slice_index_or ys i d ∷ [])) ∙ sym (ap (map f) (take_more ys i d there)))))
