-- What the piece at the front of a text says about the text, and what it is if the text begins with
-- a piece.
use Rattle.std.proofs.Common.{◌≡◌, ℕ, Bool, true, false, cond, List, [], ◌∷◌, ◌++◌, length, Option, Some, None, Ok, Err, inl, inr}
use Rattle.std.proofs.lemmas.Bool.{cond_both}
use Rattle.cp_model.specs.Spelling.{IsPiece, IsWritten}
use Rattle.cp_model.specs.Tokens.{Kind}
use Rattle.cp_model.specs.Tokens as kind
use Rattle.cp_model.specs.declared.token.Symbol.{Symbol}
use Rattle.cp_model.specs.declared.token.Symbol.TheVariants as symbol
use Rattle.cp_scan.specs.declared.refusal.Cause.TheVariants as cause
use Rattle.cp_scan.specs.Laws.{IsCauseIn}
use Rattle.cp_scan.specs.Pieces.{Piece, piece}

-- the piece at the front of a text that may be empty
abbrev pub front : List ℕ → Piece
front [] = Err cause.Byte
front (b ∷ rest) = piece b rest

-- the text begins with a piece of this kind and length
abbrev pub Begins : List ℕ → Option Kind → ℕ → Type 0
Begins text k n = (bytes : List ℕ) × (rest : List ℕ) × (text ≡ bytes ++ rest) × (length bytes ≡ n) × IsPiece k bytes rest

-- the result is true of the text
abbrev pub Holds : List ℕ → Piece → Type 0
Holds text (Ok x) = Begins text x.0 x.1
Holds text (Err c) = IsCauseIn c text

pub by_test : (text : List ℕ) (test : Bool) (x y : Piece) → (test ≡ true → Holds text x) → (test ≡ false → Holds text y) → Holds text (cond test x y)
by_test text test x y passes fails = cond_both test x y (λ r. Holds text r) passes fails

-- a mark has at least one byte
written_some : (x : Symbol) → IsWritten x [] → ⊥
written_some symbol.Plus e = cc
written_some symbol.Minus e = cc
written_some symbol.Star e = cc
written_some symbol.Ampersand e = cc
written_some symbol.Equal e = cc
written_some symbol.Unequal e = cc
written_some symbol.Less e = cc
written_some symbol.Greater e = cc
written_some symbol.AtMost e = cc
written_some symbol.AtLeast e = cc
written_some symbol.OpenParenthesis e = cc
written_some symbol.CloseParenthesis e = cc
written_some symbol.Comma e = cc
written_some symbol.Semicolon e = cc
written_some symbol.Colon e = cc
written_some symbol.Assign e = cc
written_some symbol.Dot e = cc
written_some symbol.DotDot e = cc
written_some symbol.OpenBracket e = elim e [ inl p ↦ cc | inr q ↦ cc ]
written_some symbol.CloseBracket e = elim e [ inl p ↦ cc | inr q ↦ cc ]
written_some _ e = e

-- a piece has at least one byte
pub no_empty : (k : Option Kind) (rest : List ℕ) → IsPiece k [] rest → ⊥
no_empty None rest h = h
no_empty (Some (kind.Number n)) rest h = h
no_empty (Some (kind.Character n)) rest h = elim h [ inl shown ↦ let e = shown.2 in cc | inr coded ↦ let e = coded.6 in cc ]
no_empty (Some (kind.Name letters)) rest h = h
no_empty (Some (kind.Symbol x)) rest h = elim h [ inl word ↦ word | inr mark ↦ written_some x mark.0 ]
