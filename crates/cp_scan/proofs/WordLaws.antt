-- A word is read as it is spelled, to its end. What is read is a word, or one that is too long.
use Rattle.std.proofs.Common.{◌≡◌, ℕ, suc, true, false, cond, nat_lt, List, [], ◌∷◌, ◌++◌, length, take, drop, map, Some, Ok, Err, refl, sym, ap, ◌∙◌, inl, arith}
use Rattle.std.proofs.Math.Seq.{take-append_seam}
use Rattle.std.proofs.lemmas.Bool.{le-ltb, ltb-true, ltb-false, cond_both}
use Rattle.cp_model.specs.Characters.{is_in_word, is_letter, lower}
use Rattle.cp_model.specs.Spelling.{IsWord, IsPiece, same_text, word_among, kind_of_word, reserved_words}
use Rattle.cp_model.specs.Tokens.{Kind}
use Rattle.cp_model.specs.Tokens as kind
use Rattle.cp_model.specs.declared.token.Symbol.{Symbol}
use Rattle.cp_scan.specs.declared.refusal.Cause.TheVariants as cause
use Rattle.cp_scan.specs.Pieces.{run, word, piece}
use Rattle.cp_scan.proofs.Fronts.{front, Holds, by_test}
use Rattle.cp_scan.proofs.Runs.{run_append, run_splits, run_each, run_stops, length_run}
use Rattle.cp_scan.proofs.Sorts.{letter_in_word, letter_no_blank, letter_no_quote, letter_no_apostrophe, letter_no_digit}

pub word_at : (text : List ℕ) (n : ℕ) → run is_in_word text ≡ n
    → word text ≡ (cond (nat_lt 64 n) (Err cause.Word) (Ok (Some (kind_of_word (map lower (take n text))), n)))
unfolding word
word_at text n e = rw e refl

pub piece_of_letter : (b : ℕ) (rest : List ℕ) → is_letter b ≡ true → piece b rest ≡ word (b ∷ rest)
unfolding piece
piece_of_letter b rest h = rw (letter_no_blank b h, letter_no_quote b h, letter_no_apostrophe b h, letter_no_digit b h, h) refl

pub word_again : (k : Kind) (bytes rest : List ℕ) → IsWord k bytes rest → front (bytes ++ rest) ≡ Ok (Some k, length bytes)
word_again k [] rest h = absurd h
word_again k (b ∷ bs) rest h =
    piece_of_letter b (bs ++ rest) h.0
    ∙ word_at ((b ∷ bs) ++ rest) (length (b ∷ bs)) (run_append is_in_word (b ∷ bs) rest (letter_in_word b h.0, h.1) h.2)
    ∙ rw (le-ltb 64 (length (b ∷ bs)) h.3) refl
    ∙ ap (λ (w : List ℕ). Ok (Some (kind_of_word (map lower w)), length (b ∷ bs))) (take-append_seam (b ∷ bs) rest)
    ∙ ap (λ (j : Kind). Ok (Some j, length (b ∷ bs))) (sym h.4)

-- ---- the other way

-- the kinds that words have
IsWordKind : Kind → Type 0
IsWordKind (kind.Name letters) = Unit {0}
IsWordKind (kind.Symbol x) = Unit {0}
IsWordKind (kind.Number n) = ⊥
IsWordKind (kind.Character n) = ⊥

word_among_is : (ws : List (List ℕ × Symbol)) (letters : List ℕ) → IsWordKind (word_among ws letters)
unfolding IsWordKind
word_among_is [] letters = tt
word_among_is (w ∷ ws) letters =
    cond_both (same_text w.0 letters) (kind.Symbol w.1) (word_among ws letters) (λ k. IsWordKind k) (λ e. tt)
    (λ e. word_among_is ws letters)

as_piece : (k : Kind) (bytes rest : List ℕ) → IsWordKind k → IsWord k bytes rest → IsPiece (Some k) bytes rest
unfolding IsWordKind
as_piece (kind.Name letters) bytes rest is_kind h = h
as_piece (kind.Symbol x) bytes rest is_kind h = inl h
as_piece (kind.Number n) bytes rest is_kind h = absurd is_kind
as_piece (kind.Character n) bytes rest is_kind h = absurd is_kind

module _ (b : ℕ) (rest : List ℕ) (letter : is_letter b ≡ true) where
  -- the letters, digits and underscores after the first letter
  more : ℕ
  more = run is_in_word rest

  whole : run is_in_word (b ∷ rest) ≡ suc more
  unfolding more
  whole = rw (letter_in_word b letter) refl

  long : nat_lt 64 (suc more) ≡ true → Holds (b ∷ rest) (Err cause.Word)
  unfolding more
  long over = (
    letter,
    (
      b ∷ take more rest,
      drop more rest,
      ap (λ (w : List ℕ). b ∷ w) (run_splits is_in_word rest),
      (letter_in_word b letter, run_each is_in_word rest),
      let n = length_run is_in_word rest in let lt = ltb-true 64 (suc more) over in omega arith,
    ),
  )

  fits : nat_lt 64 (suc more) ≡ false → Holds (b ∷ rest) (Ok (Some (kind_of_word (map lower (take (suc more) (b ∷ rest)))), suc more))
  unfolding more
  fits over =
      let n : length (take more rest) ≡ more = length_run is_in_word rest in
      let le = ltb-false 64 (suc more) over in
      let letters : List ℕ = map lower (b ∷ take more rest) in (
        b ∷ take more rest,
        drop more rest,
        ap (λ (w : List ℕ). b ∷ w) (run_splits is_in_word rest),
        omega arith,
        as_piece (kind_of_word letters) (b ∷ take more rest) (drop more rest) (word_among_is reserved_words letters)
            (letter, run_each is_in_word rest, run_stops is_in_word rest, omega arith, refl),
      )

  pub word_holds : Holds (b ∷ rest) (word (b ∷ rest))
  word_holds = rw (word_at (b ∷ rest) (suc more) whole) (by_test (b ∷ rest) (nat_lt 64 (suc more)) _ _ long fits)
