-- The line of an object: its form, and the value that it is of.
use Rattle.std.specs.Prelude.{◌++◌, ◌∷◌, ◌≡◌, [], List, Some, ℕ}
use Rattle.json.specs.Lex.{tokens}
use Rattle.json.specs.Print.{print}
use Rattle.serde.specs.Event.{Log}
use Rattle.serde_json.specs.Sent.{IsTextOf}

-- Tokens of JSON with nothing between them, and a line feed.
abbrev pub IsJsonLine : List ℕ → Type 0
IsJsonLine bytes = (text : List ℕ) × (text ≡ print (tokens text)) × (bytes ≡ text ++ 10 ∷ [])

-- The line of a value. A value sends events to its writer, and `writes` relates the events before
-- and after. The line has the tokens of the events that the value sends to an empty writer, and
-- then a line feed. So the line says as much of a value as its `writes` does.
abbrev pub IsLineOf : (Log → Log → Type 0) → List ℕ → Type 0
IsLineOf writes bytes = (log : Log) × (text : List ℕ) × writes (Some []) log × IsTextOf log text × (bytes ≡ text ++ 10 ∷ [])
