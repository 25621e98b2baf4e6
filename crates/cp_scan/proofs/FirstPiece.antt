-- The piece at the front of a text that isn't empty: its length, and what begins with a blank or a letter.
use Rattle.std.proofs.Common.{◌≡◌, ℕ, ◌+◌, ◌<◌, ◌≤◌, List, [], ◌∷◌, length, drop, get_or, Option, None, Result, Ok, Err, IfOk, Bool, true, refl, sym, ap, subst, ◌∙◌, length-drop, length-append, arith}
use Rattle.cp_model.specs.Characters.{is_blank, is_letter}
use Rattle.cp_model.specs.Tokens.{Kind}
use Rattle.cp_scan.specs.Fronts.{separator_piece, token_piece}
use Rattle.cp_scan.specs.declared.refusal.Cause.{Cause}
use Rattle.cp_scan.specs.Pieces.{Piece, piece, first_piece, head_or_zero, word}
use Rattle.cp_scan.proofs.Fronts.{Holds}
use Rattle.cp_scan.proofs.PieceLaws.{piece_holds}
use Rattle.cp_scan.proofs.Turns.{has_bytes}
use Rattle.cp_scan.proofs.WordLaws.{piece_of_letter}

-- the rest of a text begins with its first byte
left_at : (text : List ℕ) → 0 < length text → text ≡ head_or_zero text ∷ drop 1 text
left_at [] some = absurd (omega arith)
left_at (b ∷ rest) some = refl

pub left : (text : List ℕ) (at : ℕ) → at < length text → drop at text ≡ head_or_zero (drop at text) ∷ drop 1 (drop at text)
left text at inside = left_at (drop at text) (let l = length-drop at text in omega arith)

-- a piece has at least one byte, and no more than there are
pub piece_length : (b : ℕ) (rest : List ℕ) (k : Option Kind) (n : ℕ) → piece b rest ≡ Ok (k, n) → (0 < n) × (n ≤ length (b ∷ rest))
piece_length b rest k n e =
    let h : Holds (b ∷ rest) (Ok (k, n)) = subst (λ (r : Piece). Holds (b ∷ rest) r) e (piece_holds b rest) in
    let some = has_bytes k h.0 h.1 h.4 in
    let l = ap (λ (w : List ℕ). length w) h.2 in
    let m = length-append h.0 h.1 in
    let same = h.3 in
    (omega arith, omega arith)

-- the place after a piece is below each limit of the text
pub piece_below : (text : List ℕ) (at limit : ℕ) → 0 < length text → at + length text < limit → (r : Piece) → r ≡ first_piece text
    → IfOk r (λ read. at + read.1 < limit)
piece_below text at limit some below (Err c) is_front = tt
piece_below text at limit some below (Ok x) is_front =
    let most = (piece_length (head_or_zero text) (drop 1 text) x.0 x.1 (sym is_front)).1 in
    let l = ap (λ (w : List ℕ). length w) (left_at text some) in
    omega arith

-- and so is the place after what the code found there
pub token_below : {A : Type 0} (text : List ℕ) (at limit : ℕ) → 0 < length text → at + length text < limit → (kind : A → Kind) (r : Result (A × ℕ) Cause)
    → token_piece kind r ≡ first_piece text → IfOk r (λ found. at + found.1 < limit)
token_below text at limit some below kind (Err c) is_front = tt
token_below text at limit some below kind (Ok x) is_front = piece_below text at limit some below (token_piece kind (Ok x)) is_front

pub separator_below : (text : List ℕ) (at limit : ℕ) → 0 < length text → at + length text < limit → (r : Result ℕ Cause)
    → separator_piece r ≡ first_piece text → IfOk r (λ n. at + n < limit)
separator_below text at limit some below (Err c) is_front = tt
separator_below text at limit some below (Ok n) is_front = piece_below text at limit some below (separator_piece (Ok n)) is_front

-- a blank is a piece
blank_first : (rest : List ℕ) → is_blank (get_or rest 0 0) ≡ true → Ok (None, 1) ≡ first_piece rest
unfolding piece
blank_first [] h = absurd (cc)
blank_first (b ∷ rest) h = rw h refl

pub first_blank : (text rest : List ℕ) (is_one : Bool) → rest ≡ text → is_one ≡ is_blank (get_or rest 0 0) → is_one ≡ true
    → Ok (None, 1) ≡ first_piece text
first_blank text rest is_one same is_first h = blank_first rest (sym is_first ∙ h) ∙ ap first_piece same

-- a piece that begins with a letter is a word
word_first : (rest : List ℕ) → is_letter (get_or rest 0 0) ≡ true → word rest ≡ first_piece rest
word_first [] h = cc
word_first (b ∷ rest) h = sym (piece_of_letter b rest h)

pub first_word : (text rest : List ℕ) (is_one : Bool) → rest ≡ text → is_one ≡ is_letter (get_or rest 0 0) → is_one ≡ true
    → word rest ≡ first_piece text
first_word text rest is_one same is_first h = word_first rest (sym is_first ∙ h) ∙ ap first_piece same
