-- A number is read as it is spelled, to its last digit. What is read is a number, or one above the
-- limit.
use Rattle.std.proofs.Common.{◌≡◌, ℕ, suc, ◌≤◌, true, false, cond, nat_lt, List, [], ◌∷◌, ◌++◌, length, take, drop, Some, Ok, Err, refl, sym, ap, ◌∙◌, arith}
use Rattle.std.proofs.Math.Seq.{take-append_seam}
use Rattle.std.proofs.lemmas.Bool.{le-ltb, ltb-true, ltb-false}
use Rattle.cp_model.specs.Characters.{is_digit, decimal_value}
use Rattle.cp_model.specs.Spelling.{IsNumber, Each}
use Rattle.cp_model.specs.Tokens as kind
use Rattle.cp_scan.specs.declared.refusal.Cause.TheVariants as cause
use Rattle.cp_scan.specs.Pieces.{Piece, run, number, piece}
use Rattle.cp_scan.proofs.Fronts.{front, Holds, by_test}
use Rattle.cp_scan.proofs.Runs.{run_append, run_splits, run_each, run_stops, length_run}
use Rattle.cp_scan.proofs.Sorts.{digit_no_blank, digit_no_quote, digit_no_apostrophe}

pub number_at : (text : List ℕ) (n : ℕ) → run is_digit text ≡ n
    → number text ≡ (cond (nat_lt 32767 (decimal_value (take n text))) (Err cause.Number) (Ok (Some (kind.Number (decimal_value (take n text))), n)))
unfolding number
number_at text n e = rw e refl

pub piece_of_digit : (b : ℕ) (rest : List ℕ) → is_digit b ≡ true → piece b rest ≡ number (b ∷ rest)
unfolding piece
piece_of_digit b rest h = rw (digit_no_blank b h, digit_no_quote b h, digit_no_apostrophe b h, h) refl

small : (n : ℕ) (text digits : List ℕ) → text ≡ digits → decimal_value digits ≤ 32767
    → cond {A = Piece} (nat_lt 32767 (decimal_value text)) (Err cause.Number) (Ok (Some (kind.Number (decimal_value text)), n))
    ≡ Ok (Some (kind.Number (decimal_value digits)), n)
small n text digits e le = rw (e, le-ltb 32767 (decimal_value digits) le) refl

pub number_again : (n : ℕ) (bytes rest : List ℕ) → IsNumber n bytes rest → front (bytes ++ rest) ≡ Ok (Some (kind.Number n), length bytes)
number_again n [] rest h = absurd h
number_again n (b ∷ bs) rest h =
    piece_of_digit b (bs ++ rest) h.0.0
    ∙ number_at ((b ∷ bs) ++ rest) (length (b ∷ bs)) (run_append is_digit (b ∷ bs) rest h.0 h.1)
    ∙ small (length (b ∷ bs)) (take (length (b ∷ bs)) ((b ∷ bs) ++ rest)) (b ∷ bs) (take-append_seam (b ∷ bs) rest) h.2
    ∙ ap (λ (v : ℕ). Ok (Some (kind.Number v), length (b ∷ bs))) (sym h.3)

module _ (b : ℕ) (rest : List ℕ) (digit : is_digit b ≡ true) where
  -- the digits after the first one
  more : ℕ
  more = run is_digit rest

  whole : run is_digit (b ∷ rest) ≡ suc more
  unfolding more
  whole = rw digit refl

  digits : List ℕ
  digits = b ∷ take more rest

  behind : List ℕ
  behind = drop more rest

  splits : b ∷ rest ≡ digits ++ behind
  unfolding more digits behind
  splits = ap (λ (w : List ℕ). b ∷ w) (run_splits is_digit rest)

  each : Each is_digit digits
  unfolding more digits
  each = (digit, run_each is_digit rest)

  large : nat_lt 32767 (decimal_value digits) ≡ true → Holds (b ∷ rest) (Err cause.Number)
  unfolding more behind
  large over = (digits, behind, splits, each, run_stops is_digit rest, let lt = ltb-true 32767 (decimal_value digits) over in omega arith)

  fits : nat_lt 32767 (decimal_value digits) ≡ false → Holds (b ∷ rest) (Ok (Some (kind.Number (decimal_value digits)), suc more))
  unfolding more digits behind
  fits over =
      let n : length (take more rest) ≡ more = length_run is_digit rest in
      (digits, behind, splits, omega arith, (each, run_stops is_digit rest, ltb-false 32767 (decimal_value digits) over, refl))

  pub number_holds : Holds (b ∷ rest) (number (b ∷ rest))
  unfolding digits
  number_holds = rw (number_at (b ∷ rest) (suc more) whole) (by_test (b ∷ rest) (nat_lt 32767 (decimal_value digits)) _ _ large fits)
