-- The iterations of `pieces`: the piece at the front, and what follows it.
use Rattle.std.proofs.Common.{◌≡◌, ℕ, zero, suc, ◌+◌, ◌<◌, List, [], ◌∷◌, ◌++◌, length, drop, Option, Some, None, Ok, refl, append_assoc, arith}
use Rattle.cp_model.specs.Spelling.{IsPiece}
use Rattle.cp_model.specs.Spelling as spelling
use Rattle.cp_model.specs.Tokens.{Kind}
use Rattle.cp_model.specs.Tokens.{Token}
use Rattle.cp_scan.specs.Pieces.{Outcome, piece, pieces, continue_with, with_token}
use Rattle.cp_scan.proofs.Fronts.{no_empty}

pub at_end : (n at : ℕ) (found : List Token) → pieces n at [] found ≡ Ok found
unfolding pieces
at_end zero at found = refl
at_end (suc n) at found = refl

-- what follows a piece
abbrev pub after : ℕ → ℕ → List ℕ → List Token → Option Kind → ℕ → Outcome
after n at text found k len = pieces n (at + len) (drop len text) (with_token k at (at + len) found)

pub turn : (n at b : ℕ) (rest : List ℕ) (found : List Token)
    → pieces (suc n) at (b ∷ rest) found ≡ continue_with (piece b rest) at (after n at (b ∷ rest) found)
unfolding pieces
turn n at b rest found = refl

pub has_bytes : (k : Option Kind) (bytes rest : List ℕ) → IsPiece k bytes rest → 0 < length bytes
has_bytes k [] rest is_piece = absurd (no_empty k rest is_piece)
has_bytes k (b ∷ bs) rest is_piece = omega arith

-- tokens that were found before come before the others
pub put_in_front : (k : Option Kind) (from to : ℕ) (found others : List Token)
    → with_token k from to found ++ others ≡ found ++ spelling.with_token k from to others
put_in_front None from to found others = refl
put_in_front (Some k) from to found others = append_assoc found (record { kind = k; span = record { from = from; to = to } } ∷ []) others
