-- The list of pieces that spells a text is the one that is found.
use Rattle.std.proofs.Common.{◌≡◌, ℕ, zero, suc, ◌+◌, ◌≤◌, List, [], ◌∷◌, ◌++◌, length, Option, Ok, Err, refl, sym, ap, subst, ◌∙◌, length-append, arith}
use Rattle.std.proofs.lemmas.List.{append-nil, drop_at}
use Rattle.cp_model.specs.Spelling.{IsPiece, Row, Spells, SpelledUpTo}
use Rattle.cp_model.specs.Tokens.{Kind}
use Rattle.cp_model.specs.Tokens.{Token}
use Rattle.cp_model.specs.Characters.{decimal_value}
use Rattle.cp_scan.specs.declared.refusal.Cause.{Cause}
use Rattle.cp_scan.specs.declared.refusal.Cause.TheVariants as cause
use Rattle.cp_scan.specs.Laws.{IsCauseIn}
use Rattle.cp_scan.specs.Pieces.{Piece, Outcome, pieces, continue_with, with_token, tokens_of}
use Rattle.cp_scan.proofs.CauseLaws.{cause_again}
use Rattle.cp_scan.proofs.Fronts.{no_empty}
use Rattle.cp_scan.proofs.PieceLaws.{piece_again}
use Rattle.cp_scan.proofs.Turns.{after, turn, at_end, has_bytes, put_in_front}

piece_found : (n at : ℕ) (k : Option Kind) (bytes rest : List ℕ) (found : List Token) (o : Outcome) → IsPiece k bytes rest
    → pieces n (at + length bytes) rest (with_token k at (at + length bytes) found) ≡ o → pieces (suc n) at (bytes ++ rest) found ≡ o
piece_found n at k [] rest found o is_piece others = absurd (no_empty k rest is_piece)
piece_found n at k (b ∷ bs) rest found o is_piece others =
    turn n at b (bs ++ rest) found
    ∙ ap (λ (r : Piece). continue_with r at (after n at (b ∷ bs ++ rest) found)) (piece_again k (b ∷ bs) rest is_piece)
    ∙ ap (λ (w : List ℕ). pieces n (at + length (b ∷ bs)) w (with_token k at (at + length (b ∷ bs)) found))
    (drop_at (b ∷ bs) rest (length (b ∷ bs)) refl)
    ∙ others

-- a list of pieces has the same outcome as the rest of the text after it
row_leads : (n at : ℕ) (ps : List (Option Kind × List ℕ)) (text : List ℕ) (tokens : List Token) (last : List ℕ) (found : List Token)
    (o : Outcome) → length text ≤ n → Row at ps text tokens last
    → ((m place : ℕ) → length last ≤ m → place + length last ≡ at + length text → pieces m place last (found ++ tokens) ≡ o)
    → pieces n at text found ≡ o
row_leads n at [] text tokens last found o le row from_last =
    let e = ap (λ (w : List ℕ). length w) row.0 in
    let here = from_last n at (omega arith) (omega arith) in
    rw row.0 (subst (λ (ts : List Token). pieces n at last ts ≡ o) (ap (λ (ts : List Token). found ++ ts) row.1 ∙ append-nil found) here)
row_leads zero at (p ∷ ps) text tokens last found o le row from_last =
    absurd (let some = has_bytes p.0 p.1 row.0 row.3 in let e = ap (λ (w : List ℕ). length w) row.2 in let m = length-append p.1 row.0 in omega arith)
row_leads (suc n) at (p ∷ ps) text tokens last found o le row from_last =
    let some = has_bytes p.0 p.1 row.0 row.3 in
    let e = ap (λ (w : List ℕ). length w) row.2 in
    let l = length-append p.1 row.0 in
    let le' : length row.0 ≤ n = omega arith in
    let found' = with_token p.0 at (at + length p.1) found in
    let same : found ++ tokens ≡ found' ++ row.1 =
    ap (λ (ts : List Token). found ++ ts) row.4 ∙ sym (put_in_front p.0 at (at + length p.1) found row.1) in
    rw row.2 (piece_found n at p.0 p.1 row.0 found o row.3 (row_leads n (at + length p.1) ps row.0 row.1 last found' o le' row.5
    (λ m place behind p'. subst (λ (ts : List Token). pieces m place last ts ≡ o) same (from_last m place behind (omega arith)))))

pub spelled_found : (text : List ℕ) (tokens : List Token) → Spells text tokens → tokens_of text ≡ Ok tokens
spelled_found text tokens h =
    row_leads (length text) 0 h.0 text tokens [] [] (Ok tokens) (omega arith) h.1 (λ m place le e. at_end m place ([] ++ tokens))

no_cause_at_end : (c : Cause) → IsCauseIn c [] → ⊥
no_cause_at_end cause.Byte h = h
no_cause_at_end cause.Comment h = h
no_cause_at_end cause.Character h = h
no_cause_at_end cause.Number h = no_digits h.0 h.1 h.2 h.5
  where
    no_digits : (digits rest : List ℕ) → [] ≡ digits ++ rest → 32768 ≤ decimal_value digits → ⊥
    no_digits [] rest e over = omega arith
    no_digits (b ∷ digits) rest e over = cc
no_cause_at_end cause.Word h = h
no_cause_at_end cause.Size h = h

cause_found : (n at : ℕ) (c : Cause) (last : List ℕ) (found : List Token) → length last ≤ n → IsCauseIn c last → pieces n at last found ≡ Err (c, at)
cause_found n at c [] found le h = absurd (no_cause_at_end c h)
cause_found zero at c (b ∷ rest) found le h = absurd (omega arith)
cause_found (suc n) at c (b ∷ rest) found le h =
    turn n at b rest found ∙ ap (λ (r : Piece). continue_with r at (after n at (b ∷ rest) found)) (cause_again c (b ∷ rest) h)

-- a text that is spelled up to a cause is refused for that cause there
pub refusal_found : (text : List ℕ) (c : Cause) (at : ℕ) (rest : List ℕ) → SpelledUpTo text at rest → IsCauseIn c rest → tokens_of text ≡ Err (c, at)
refusal_found text c at rest h represents =
    row_leads (length text) 0 h.0 text h.1 rest [] (Err (c, at)) (omega arith) h.2
    (λ m place le e.
    let own = h.3 in
    let p : place ≡ at = omega arith in
    cause_found m place c rest ([] ++ h.1) le represents ∙ ap (λ (v : ℕ). Err (c, v)) p)
