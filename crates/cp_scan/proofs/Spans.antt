-- The spans of the tokens that spell a text rise and don't overlap.
use Rattle.std.proofs.Common.{◌≡◌, ℕ, ◌+◌, ◌≤◌, List, [], ◌∷◌, ◌++◌, length, Option, Some, None, subst, ap, length-append, zero-add, arith}
use Rattle.cp_model.specs.Spelling.{IsPiece, Row, Spells}
use Rattle.cp_model.specs.Spelling as spelling
use Rattle.cp_model.specs.Tokens.{Kind}
use Rattle.cp_model.specs.Tokens.{Token}
use Rattle.cp_scan.specs.Laws.{RisesFrom}
use Rattle.cp_scan.proofs.Turns.{has_bytes}

lower_start : (from at end : ℕ) (tokens : List Token) → from ≤ at → RisesFrom at tokens end → RisesFrom from tokens end
lower_start from at end [] le h = omega arith
lower_start from at end (t ∷ ts) le h = (let first = h.0 in omega arith, h.1, h.2)

rises_with : (at : ℕ) (k : Option Kind) (bytes rest : List ℕ) (others : List Token) (text : List ℕ) (tokens : List Token)
    → text ≡ bytes ++ rest → IsPiece k bytes rest → tokens ≡ spelling.with_token k at (at + length bytes) others
    → RisesFrom (at + length bytes) others (at + length bytes + length rest) → RisesFrom at tokens (at + length text)
rises_with at None bytes rest others text tokens e is_piece t h =
    let m = length-append bytes rest in
    let l : at + length text ≡ at + length bytes + length rest = (let l' = ap (λ (w : List ℕ). length w) e in omega arith) in
    rw (t, l) (lower_start at (at + length bytes) (at + length bytes + length rest) others (omega arith) h)
rises_with at (Some k) bytes rest others text tokens e is_piece t h =
    let m = length-append bytes rest in
    let some = has_bytes (Some k) bytes rest is_piece in
    let l : at + length text ≡ at + length bytes + length rest = (let l' = ap (λ (w : List ℕ). length w) e in omega arith) in
    rw (t, l) (omega arith, omega arith, h)

row_rises : (at : ℕ) (ps : List (Option Kind × List ℕ)) (text : List ℕ) (tokens : List Token) → Row at ps text tokens []
    → RisesFrom at tokens (at + length text)
row_rises at [] text tokens row = rw (row.0, row.1) (omega arith)
row_rises at (p ∷ ps) text tokens row =
    rises_with at p.0 p.1 row.0 row.1 text tokens row.2 row.3 row.4 (row_rises (at + length p.1) ps row.0 row.1 row.5)

pub spans_rise : (text : List ℕ) (tokens : List Token) → Spells text tokens → RisesFrom 0 tokens (length text)
spans_rise text tokens h = subst (λ (n : ℕ). RisesFrom 0 tokens n) (zero-add (length text)) (row_rises 0 h.0 text tokens h.1)
