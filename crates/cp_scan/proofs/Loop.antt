-- The iterations of the scanner's loop, and its end.
use Rattle.std.proofs.Common.{◌≡◌, ℕ, suc, ◌+◌, ◌-◌, ◌<◌, ◌≤◌, List, ◌∷◌, length, drop, Option, Ok, Err, IfErr, IsErrAnd, refl, sym, ap, subst, ◌∙◌, length-drop, arith}
use Rattle.std.proofs.lemmas.List.{drop_all, drop-drop}
use Rattle.cp_model.specs.Tokens.{Kind}
use Rattle.cp_model.specs.Tokens.{Token}
use Rattle.cp_scan.specs.declared.refusal.Cause.{Cause}
use Rattle.cp_scan.specs.declared.refusal.ScanError.{ScanError}
use Rattle.cp_scan.specs.declared.refusal.ScanError.TheVariants as error
use Rattle.cp_scan.specs.Failures.{Fails}
use Rattle.cp_scan.specs.Pieces.{Piece, Outcome, piece, pieces, step, continue_with, with_token, tokens_of}
use Rattle.cp_scan.proofs.FirstPiece.{piece_length}
use Rattle.cp_scan.proofs.Fuel.{same_fuel}
use Rattle.cp_scan.proofs.Outcomes.{Answer}
use Rattle.cp_scan.proofs.Turns.{after, turn, at_end}

-- the piece of a step, and what the step makes of it
piece_of : (r : Piece) (at : ℕ) (found : List Token) (end : ℕ) (with_it : List Token) → step r at found ≡ Ok (end, with_it)
    → (k : Option Kind) × (n : ℕ) × (r ≡ Ok (k, n)) × (end ≡ at + n) × (with_it ≡ with_token k at (at + n) found)
piece_of (Ok x) at found end with_it e =
    let same : (end, with_it) ≡ (at + x.1, with_token x.0 at (at + x.1) found) = cc in
    (x.0, x.1, refl, ap (λ (went : ℕ × List Token). went.0) same, ap (λ (went : ℕ × List Token). went.1) same)
piece_of (Err c) at found end with_it e = cc

-- a text that fails at a step fails
fails_at : (r : Piece) (at : ℕ) (found : List Token) (next : Option Kind → ℕ → Outcome) (error : ScanError) → Fails error (step r at found)
    → Fails error (continue_with r at next)
fails_at r at found next error.Memory h = h
fails_at (Ok x) at found next (error.Refused c place) h = cc
fails_at (Err d) at found next (error.Refused c place) h =
    let same : (d, at) ≡ (c, place) = cc in ap (λ (cause : Cause × ℕ). Err cause) same

-- a failure that is passed on as it is
pub reported : (text : List ℕ) (r : Answer) (error : ScanError) → IsErrAnd r (λ e. e ≡ error) → Fails error (tokens_of text)
    → IfErr r (λ e. Fails e (tokens_of text))
reported text (Ok tokens) error same h = tt
reported text (Err e) error same h = subst (λ (e : ScanError). Fails e (tokens_of text)) (sym same) h

module _ (text : List ℕ) (at : ℕ) (found : List Token)
    (so_far : pieces (length text - at) at (drop at text) found ≡ tokens_of text) where
  pub ends : length text ≤ at → tokens_of text ≡ Ok found
  ends all = sym so_far ∙ rw (drop_all at text all) (at_end (length text - at) at found)

  module _ (b : ℕ) (rest : List ℕ) (is_left : drop at text ≡ b ∷ rest) where
    bytes_left : length text - at ≡ suc (length rest)
    bytes_left = sym (length-drop at text) ∙ ap (λ (w : List ℕ). length w) is_left

    here : continue_with (piece b rest) at (after (length rest) at (b ∷ rest) found) ≡ tokens_of text
    here =
        sym (turn (length rest) at b rest found)
        ∙ ap (λ (w : List ℕ). pieces (suc (length rest)) at w found) (sym is_left)
        ∙ ap (λ (m : ℕ). pieces m at (drop at text) found) (sym bytes_left)
        ∙ so_far

    pub fails : (error : ScanError) → Fails error (step (piece b rest) at found) → Fails error (tokens_of text)
    fails error h =
        subst (λ (o : Outcome). Fails error o) here (fails_at (piece b rest) at found (after (length rest) at (b ∷ rest) found) error h)

    module _ (end : ℕ) (with_it : List Token) (e : step (piece b rest) at found ≡ Ok (end, with_it)) where
      pub moves_on : at < end
      moves_on =
          let p = piece_of (piece b rest) at found end with_it e in
          let some = (piece_length b rest p.0 p.1 p.2).0 in
          let is_end = p.3 in
          omega arith

      pub within : end ≤ length text
      within =
          let p = piece_of (piece b rest) at found end with_it e in
          let most = (piece_length b rest p.0 p.1 p.2).1 in
          let is_end = p.3 in
          let l = bytes_left in
          omega arith

      pub goes : pieces (length text - end) end (drop end text) with_it ≡ tokens_of text
      goes =
          let p = piece_of (piece b rest) at found end with_it e in
          let some = moves_on in
          let most = within in
          let l = bytes_left in
          let m = length-drop end text in
          let d : drop end text ≡ drop p.1 (b ∷ rest) =
          ap (λ (i : ℕ). drop i text) p.3 ∙ sym (drop-drop p.1 at text) ∙ ap (λ (w : List ℕ). drop p.1 w) is_left in
          same_fuel (length text - end) (length rest) end (drop end text) with_it (omega arith) (omega arith)
          ∙ ap (λ (w : List ℕ). pieces (length rest) end w with_it) d
          ∙ ap (λ (i : ℕ). pieces (length rest) i (drop p.1 (b ∷ rest)) with_it) p.3
          ∙ ap (λ (ts : List Token). pieces (length rest) (at + p.1) (drop p.1 (b ∷ rest)) ts) p.4
          ∙ ap (λ (r : Piece). continue_with r at (after (length rest) at (b ∷ rest) found)) (sym p.2)
          ∙ here
