-- What the code finds at the front of a text, as a piece.
use Rattle.std.specs.Prelude.{ℕ, Some, None, Result, Ok, Err}
use Rattle.cp_model.specs.Tokens.{Kind}
use Rattle.cp_scan.specs.Pieces.{Piece}
use Rattle.cp_scan.specs.declared.refusal.Cause.{Cause}

-- a token, of a kind that is made of what was found
abbrev pub token_piece : {A : Type 0} → (A → Kind) → Result (A × ℕ) Cause → Piece
token_piece kind (Ok found) = Ok (Some (kind found.0), found.1)
token_piece kind (Err cause) = Err cause

-- a separator
abbrev pub separator_piece : Result ℕ Cause → Piece
separator_piece (Ok length) = Ok (None, length)
separator_piece (Err cause) = Err cause
