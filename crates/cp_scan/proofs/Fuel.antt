-- Any bound that is at least the number of bytes gives the same pieces.
use Rattle.std.proofs.Common.{◌≡◌, ℕ, zero, suc, ◌+◌, ◌≤◌, List, [], ◌∷◌, ◌++◌, length, drop, Option, Ok, Err, refl, sym, ap, ◌∙◌, length-append, arith}
use Rattle.std.proofs.lemmas.List.{drop_at}
use Rattle.cp_model.specs.Spelling.{IsPiece}
use Rattle.cp_model.specs.Tokens.{Kind}
use Rattle.cp_model.specs.Tokens.{Token}
use Rattle.cp_scan.specs.Pieces.{Piece, Outcome, piece, pieces, continue_with, with_token}
use Rattle.cp_scan.proofs.Fronts.{Holds}
use Rattle.cp_scan.proofs.PieceLaws.{piece_holds}
use Rattle.cp_scan.proofs.Turns.{after, turn, at_end, has_bytes}

fuel_by : (at : ℕ) (text : List ℕ) (r : Piece) (f g : Option Kind → ℕ → Outcome) → Holds text r
    → ((k : Option Kind) (bytes rest : List ℕ) → text ≡ bytes ++ rest → IsPiece k bytes rest → f k (length bytes) ≡ g k (length bytes))
    → continue_with r at f ≡ continue_with r at g
fuel_by at text (Err c) f g h same = refl
fuel_by at text (Ok x) f g h same = rw (← h.3) (same x.0 h.0 h.1 h.2 h.4)

pub same_fuel : (n m at : ℕ) (text : List ℕ) (found : List Token) → length text ≤ n → length text ≤ m
    → pieces n at text found ≡ pieces m at text found
same_fuel n m at [] found le me = at_end n at found ∙ sym (at_end m at found)
same_fuel zero m at (b ∷ rest) found le me = absurd (omega arith)
same_fuel (suc n) zero at (b ∷ rest) found le me = absurd (omega arith)
same_fuel (suc n) (suc m) at (b ∷ rest) found le me =
    turn n at b rest found
    ∙ fuel_by at (b ∷ rest) (piece b rest) (after n at (b ∷ rest) found) (after m at (b ∷ rest) found) (piece_holds b rest)
    (λ k bytes behind e is_piece.
    let some = has_bytes k bytes behind is_piece in
    let l = ap (λ (w : List ℕ). length w) e in
    let j = length-append bytes behind in
    let d : drop (length bytes) (b ∷ rest) ≡ behind = ap (λ (w : List ℕ). drop (length bytes) w) e ∙ drop_at bytes behind (length bytes) refl in
    let le' : length behind ≤ n = omega arith in
    let me' : length behind ≤ m = omega arith in
    rw d (same_fuel n m (at + length bytes) behind (with_token k at (at + length bytes) found) le' me'))
    ∙ sym (turn m at b rest found)
