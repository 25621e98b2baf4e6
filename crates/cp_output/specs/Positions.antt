-- The line and the column of a place, both counted from 1. A line ends with a line feed, and each
-- byte takes one column.
use Rattle.std.specs.Prelude.{◌≡◌, ◌⊎◌, ℕ, suc, List, [], ◌∷◌, ◌++◌, if◌then◌else◌, length, nat_eq, take}

abbrev pub line_feeds : List ℕ → ℕ
line_feeds [] = 0
line_feeds (b ∷ bs) = if nat_eq b 10 then suc (line_feeds bs) else line_feeds bs

-- The column after these bytes, if the first of them is in column `n`.
abbrev pub column_from : ℕ → List ℕ → ℕ
column_from n [] = n
column_from n (b ∷ bs) = if nat_eq b 10 then column_from 1 bs else column_from (suc n) bs

abbrev pub line_at : List ℕ → ℕ → ℕ
line_at text at = suc (line_feeds (take at text))

abbrev pub column_at : List ℕ → ℕ → ℕ
column_at text at = column_from 1 (take at text)

-- Whole lines: no bytes, or bytes of which the last one is a line feed.
abbrev pub AreLines : List ℕ → Type 0
AreLines bs = (bs ≡ []) ⊎ ((front : List ℕ) × (bs ≡ front ++ 10 ∷ []))

-- The bytes before a place are `line - 1` whole lines, and then `column - 1` bytes of the line of
-- the place.
pub record Counts (text : List ℕ) (at line column : ℕ) : Type 0 where
  pub lines : List ℕ
  pub rest : List ℕ
  pub before : take at text ≡ lines ++ rest
  pub whole : AreLines lines
  pub same_line : line_feeds rest ≡ 0
  pub line_is : line ≡ suc (line_feeds lines)
  pub column_is : column ≡ suc (length rest)
