-- The first piece of a list of bytes, found byte by byte.
use Rattle.std.proofs.Common.{◌≡◌, ◌+◌, ◌<◌, ◌≤◌, ℕ, Bool, true, false, cond, eqb, List, [], ◌∷◌, ◌++◌, length, get_or, take, drop, refl, ap, sym, ◌∙◌, subst, arith}
use Rattle.std.proofs.lemmas.List.{append-nil, append_assoc, at_drop_more, at_drop_all, take_more}
use Rattle.std.proofs.lemmas.Bool.Decides.{nat_tests}
use Rattle.cp_model.specs.OrderText.{split_at_byte, with_first_byte}
use Rattle.cp_base_schedule.specs.Pieces.{pieces_after}

-- The pieces, with more bytes before the first one.
abbrev pub joined : List ℕ → List (List ℕ) → List (List ℕ)
joined front [] = front ∷ []
joined front (piece ∷ pieces) = (front ++ piece) ∷ pieces

joined_more : (front : List ℕ) (c : ℕ) (pieces : List (List ℕ)) → joined (front ++ c ∷ []) pieces ≡ joined front (with_first_byte c pieces)
joined_more front c [] = refl
joined_more front c (piece ∷ pieces) = ap (λ (p : List ℕ). p ∷ pieces) (append_assoc front (c ∷ []) piece)

pub joined_nothing : (b : ℕ) (bytes : List ℕ) → joined [] (split_at_byte b bytes) ≡ split_at_byte b bytes
joined_nothing b [] = refl
joined_nothing b (c ∷ bytes) = by (eqb b c)
  where
    first : (pieces : List (List ℕ)) → joined [] (with_first_byte c pieces) ≡ with_first_byte c pieces
    first [] = refl
    first (piece ∷ pieces) = refl

    by : (t : Bool) → joined [] (cond t ([] ∷ split_at_byte b bytes) (with_first_byte c (split_at_byte b bytes)))
        ≡ cond t ([] ∷ split_at_byte b bytes) (with_first_byte c (split_at_byte b bytes))
    by true = refl
    by false = first (split_at_byte b bytes)

pub same_byte : (a b : ℕ) → b ≡ a → eqb a b ≡ true
same_byte a b e = grind (arith, nat_tests)

pub other_byte : (a b : ℕ) → (b ≡ a → ⊥) → eqb a b ≡ false
other_byte a b e = grind (arith, nat_tests)

-- ---- One byte more

module _ (b : ℕ) (bytes : List ℕ) (i : ℕ) (inside : i < length bytes) where
  pub piece_goes : eqb b (get_or bytes i 0) ≡ false
      → joined (take (i + 1) bytes) (split_at_byte b (drop (i + 1) bytes)) ≡ joined (take i bytes) (split_at_byte b (drop i bytes))
  piece_goes other =
      let c : ℕ = get_or bytes i 0 in
      let rest : List ℕ = drop (i + 1) bytes in
      let front : List ℕ = take i bytes in
      let whole : split_at_byte b (drop i bytes) ≡ with_first_byte c (split_at_byte b rest) =
      at_drop_more (split_at_byte b) bytes i 0 inside ∙ ap (λ (t : Bool). cond t ([] ∷ split_at_byte b rest) (with_first_byte c (split_at_byte b rest))) other in
      ap (λ (f : List ℕ). joined f (split_at_byte b rest)) (take_more bytes i 0 inside)
      ∙ (joined_more front c (split_at_byte b rest) ∙ ap (joined front) (sym whole))

  pub piece_ends : eqb b (get_or bytes i 0) ≡ true
      → joined (take i bytes) (split_at_byte b (drop i bytes)) ≡ take i bytes ∷ pieces_after b (drop i bytes)
  piece_ends here =
      let c : ℕ = get_or bytes i 0 in
      let rest : List ℕ = drop (i + 1) bytes in
      let front : List ℕ = take i bytes in
      let whole : split_at_byte b (drop i bytes) ≡ [] ∷ split_at_byte b rest =
      at_drop_more (split_at_byte b) bytes i 0 inside ∙ ap (λ (t : Bool). cond t ([] ∷ split_at_byte b rest) (with_first_byte c (split_at_byte b rest))) here in
      let after : pieces_after b (drop i bytes) ≡ split_at_byte b rest = at_drop_more (pieces_after b) bytes i 0 inside in
      ap (joined front) whole ∙ (λ j. append-nil front j ∷ sym after j)

-- The last piece.
pub piece_last : (b : ℕ) (bytes : List ℕ) (i : ℕ) → length bytes ≤ i
    → joined (take i bytes) (split_at_byte b (drop i bytes)) ≡ take i bytes ∷ pieces_after b (drop i bytes)
piece_last b bytes i past =
    ap (joined (take i bytes)) (at_drop_all (split_at_byte b) bytes i past)
    ∙ (λ j. append-nil (take i bytes) j ∷ sym (at_drop_all (pieces_after b) bytes i past) j)

-- No such byte was found.
pub piece_whole : (b : ℕ) (bytes : List ℕ) (i : ℕ) → i ≡ length bytes → joined (take i bytes) (split_at_byte b (drop i bytes)) ≡ split_at_byte b bytes
    → split_at_byte b bytes ≡ take (length bytes) bytes ∷ pieces_after b (drop (length bytes) bytes)
piece_whole b bytes i all was =
    let n : ℕ = length bytes in
    let whole : joined (take n bytes) (split_at_byte b (drop n bytes)) ≡ split_at_byte b bytes =
    subst (λ (k : ℕ). joined (take k bytes) (split_at_byte b (drop k bytes)) ≡ split_at_byte b bytes) all was in
    sym whole ∙ piece_last b bytes n (omega arith)

-- ---- Pieces after the first one

pub pieces_go : (b : ℕ) (bytes : List ℕ) (i : ℕ) → i < length bytes → pieces_after b (drop i bytes) ≡ split_at_byte b (drop (i + 1) bytes)
pieces_go b bytes i inside = at_drop_more (pieces_after b) bytes i 0 inside

pub pieces_end : (b : ℕ) (bytes : List ℕ) (i : ℕ) → length bytes ≤ i → pieces_after b (drop i bytes) ≡ []
pieces_end b bytes i past = at_drop_all (pieces_after b) bytes i past
