-- What a page has: its bytes, or nothing if memory ran out while it was written.
use Rattle.std.specs.Prelude.{ℕ, List, ◌++◌, Option, None, Some, codes}
use Rattle.cp_model.specs.Decimal.{natural}

-- A page with these bytes at its end.
abbrev pub with_added : Option (List ℕ) → List ℕ → Option (List ℕ)
with_added None bytes = None
with_added (Some front) bytes = Some (front ++ bytes)

-- Bytes between backquotes.
abbrev pub quoted : List ℕ → List ℕ
quoted bytes = codes "`" ++ bytes ++ codes "`"

-- A line and a column.
abbrev pub reported_position : ℕ → ℕ → List ℕ
reported_position line column = natural line ++ codes ":" ++ natural column
