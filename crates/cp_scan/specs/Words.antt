-- The letters of words, and the kind of a word, from the result of looking it up among the reserved
-- words.
use Rattle.std.specs.Prelude.{◌≡◌, ◌≤◌, ℕ, List, Option, Some, None, length, map, take}
use Rattle.cp_model.specs.Characters.{lower}
use Rattle.cp_model.specs.declared.short.TheConstants.{FRONT}
use Rattle.cp_model.specs.Tokens.{Kind}
use Rattle.cp_model.specs.Tokens as kind
use Rattle.cp_model.specs.declared.token.Symbol.{Symbol}

abbrev pub kind_or_name : Option Symbol → List ℕ → Kind
kind_or_name None letters = kind.Name letters
kind_or_name (Some symbol) letters = kind.Symbol symbol

-- These letters are those at the front of the text, in lower case, as far as there is room.
abbrev pub IsFront : List ℕ → List ℕ → Type 0
IsFront text letters = (n : ℕ) → n ≤ FRONT → n ≤ length text → take n letters ≡ map lower (take n text)
