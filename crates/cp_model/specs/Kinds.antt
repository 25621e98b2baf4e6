-- The bytes of a name, whether they are within it or in an allocation, and the kinds of tokens.
use Rattle.std.specs.Prelude.{ℕ, List, [], take}
use Rattle.cp_model.specs.Tokens as plain
use Rattle.cp_model.specs.declared.token.Kind.{Kind}
use Rattle.cp_model.specs.declared.token.Kind.TheVariants as kind
use Rattle.cp_model.specs.declared.token.Letters.{Letters}
use Rattle.cp_model.specs.declared.token.Letters.TheVariants.{Short, Long}
use Rattle.cp_model.specs.declared.short.ShortWord.{ShortWord}

abbrev pub short_bytes : ShortWord → List ℕ
short_bytes word = take word.length word.letters

abbrev pub bytes_of : Letters → List ℕ
bytes_of (Short word) = short_bytes word
bytes_of (Long word) = word.value.items

abbrev pub kind_of : Kind → plain.Kind
kind_of (kind.Short word) = plain.Name (short_bytes word)
kind_of (kind.Long word) = plain.Name word.value.items
kind_of (kind.Number n) = plain.Number n
kind_of (kind.Character n) = plain.Character n
kind_of (kind.Symbol s) = plain.Symbol s

-- the letters of a name, or none of another token
abbrev pub letters_of : plain.Kind → List ℕ
letters_of (plain.Name letters) = letters
letters_of _ = []
