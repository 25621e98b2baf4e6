-- The tokens that are found spell the text. If there are none, the text is spelled up to the first
-- cause.
use Rattle.std.proofs.Common.{◌≡◌, ℕ, zero, suc, ◌+◌, ◌≤◌, List, [], ◌∷◌, ◌++◌, length, drop, Option, Ok, Err, refl, sym, ap, subst, ◌∙◌, length-append, arith}
use Rattle.std.proofs.lemmas.List.{append-nil, drop_at}
use Rattle.cp_model.specs.Spelling.{IsPiece, Row, Spells, SpelledUpTo}
use Rattle.cp_model.specs.Spelling as spelling
use Rattle.cp_model.specs.Tokens.{Kind}
use Rattle.cp_model.specs.Tokens.{Token}
use Rattle.cp_scan.specs.declared.refusal.Cause.{Cause}
use Rattle.cp_scan.specs.Laws.{IsCauseIn}
use Rattle.cp_scan.specs.Pieces.{Piece, Outcome, piece, pieces, continue_with, with_token, tokens_of}
use Rattle.cp_scan.proofs.Fronts.{Holds}
use Rattle.cp_scan.proofs.PieceLaws.{piece_holds}
use Rattle.cp_scan.proofs.Turns.{after, turn, at_end, has_bytes, put_in_front}

-- what an outcome says about the text from `at` on, if the tokens `found` come before
Reports : ℕ → List ℕ → List Token → Outcome → Type 0
Reports at text found (Ok tokens) = (ps : List (Option Kind × List ℕ)) × (others : List Token) × Row at ps text others [] × (tokens ≡ found ++ others)
Reports at text found (Err e) = (ps : List (Option Kind × List ℕ)) × (others : List Token) × (rest : List ℕ) × Row at ps text others rest
    × (at + length text ≡ e.1 + length rest) × IsCauseIn e.0 rest

with_piece : (at : ℕ) (k : Option Kind) (bytes rest : List ℕ) (found : List Token) (o : Outcome) → IsPiece k bytes rest
    → Reports (at + length bytes) rest (with_token k at (at + length bytes) found) o → Reports at (bytes ++ rest) found o
unfolding Reports
with_piece at k bytes rest found (Ok tokens) is_piece h = (
  (k, bytes) ∷ h.0,
  spelling.with_token k at (at + length bytes) h.1,
  (rest, h.1, refl, is_piece, refl, h.2),
  h.3 ∙ put_in_front k at (at + length bytes) found h.1,
)
with_piece at k bytes rest found (Err e) is_piece h = (
  (k, bytes) ∷ h.0,
  spelling.with_token k at (at + length bytes) h.1,
  h.2,
  (rest, h.1, refl, is_piece, refl, h.3),
  (let place = h.4 in let m = length-append bytes rest in omega arith),
  h.5,
)

-- one iteration, whatever the piece at the front
reported_by : (at : ℕ) (text : List ℕ) (found : List Token) (r : Piece) (next : Option Kind → ℕ → Outcome) → Holds text r
    → ((k : Option Kind) (bytes rest : List ℕ) → text ≡ bytes ++ rest → IsPiece k bytes rest
    → Reports (at + length bytes) rest (with_token k at (at + length bytes) found) (next k (length bytes)))
    → Reports at text found (continue_with r at next)
unfolding Reports
reported_by at text found (Err c) next h others = ([], [], text, (refl, refl), refl, h)
reported_by at text found (Ok x) next h others =
    rw h.2 (rw (← h.3) (with_piece at x.0 h.0 h.1 found (next x.0 (length h.0)) h.4 (others x.0 h.0 h.1 h.2 h.4)))

reported : (n at : ℕ) (text : List ℕ) (found : List Token) → length text ≤ n → Reports at text found (pieces n at text found)
unfolding Reports
reported n at [] found le = rw (at_end n at found) ([], [], (refl, refl), sym (append-nil found))
reported zero at (b ∷ rest) found le = absurd (omega arith)
reported (suc n) at (b ∷ rest) found le =
    rw (turn n at b rest found) (reported_by at (b ∷ rest) found (piece b rest) (after n at (b ∷ rest) found) (piece_holds b rest)
    (λ k bytes behind e is_piece.
    let some = has_bytes k bytes behind is_piece in
    let m = length-append bytes behind in
    let l = ap (λ (w : List ℕ). length w) e in
    let d : drop (length bytes) (b ∷ rest) ≡ behind = ap (λ (w : List ℕ). drop (length bytes) w) e ∙ drop_at bytes behind (length bytes) refl in
    let le' : length behind ≤ n = omega arith in
    rw d (reported n (at + length bytes) behind (with_token k at (at + length bytes) found) le')))

pub found_spells : (text : List ℕ) (tokens : List Token) → tokens_of text ≡ Ok tokens → Spells text tokens
unfolding Reports
found_spells text tokens e =
    let h : Reports 0 text [] (Ok tokens) = subst (λ (o : Outcome). Reports 0 text [] o) e (reported (length text) 0 text [] (omega arith)) in
    (h.0, subst (λ (ts : List Token). Row 0 h.0 text ts []) (sym h.3) h.2)

pub first_cause : (text : List ℕ) (c : Cause) (at : ℕ) → tokens_of text ≡ Err (c, at) → (rest : List ℕ) × SpelledUpTo text at rest × IsCauseIn c rest
unfolding Reports
first_cause text c at e =
    let h : Reports 0 text [] (Err (c, at)) = subst (λ (o : Outcome). Reports 0 text [] o) e (reported (length text) 0 text [] (omega arith)) in
    (h.2, (h.0, h.1, h.3, let place = h.4 in omega arith), h.5)
