-- Which tokens spell a text: the text is a sequence of pieces, each a separator or the spelling of
-- the next token. A word continues as long as letters, digits or underscores follow, a number as long
-- as digits follow, and a mark is the longest that fits.
use Rattle.std.specs.Prelude.{◌≡◌, ℕ, ◌+◌, ◌≤◌, Bool, true, false, not, ◌||◌, ◌==◌, if◌then◌else◌, List, [], ◌∷◌, ◌++◌, length, map, Option, Some, None, codes, ◌⊎◌}
use Rattle.cp_model.specs.Characters.{is_blank, is_digit, is_letter, is_in_word, is_quote, is_apostrophe, is_printable, lower, decimal_value}
use Rattle.cp_model.specs.Tokens.{Kind}
use Rattle.cp_model.specs.Tokens as kind
use Rattle.cp_model.specs.declared.token.Symbol.{Symbol}
use Rattle.cp_model.specs.declared.token.Symbol.TheVariants as symbol
use Rattle.cp_model.specs.Tokens.{Token}

-- ---- words

abbrev pub reserved_words : List (List ℕ × Symbol)
reserved_words =
    (codes "array", symbol.Array) ∷ (codes "begin", symbol.Begin) ∷ (codes "case", symbol.Case) ∷ (codes "class", symbol.Class)
    ∷ (codes "const", symbol.Const) ∷ (codes "cycle", symbol.Cycle) ∷ (codes "div", symbol.Div) ∷ (codes "do", symbol.Do)
    ∷ (codes "downto", symbol.Downto) ∷ (codes "else", symbol.Else) ∷ (codes "end", symbol.End) ∷ (codes "entry", symbol.Entry)
    ∷ (codes "for", symbol.For) ∷ (codes "function", symbol.Function) ∷ (codes "if", symbol.If) ∷ (codes "in", symbol.In)
    ∷ (codes "init", symbol.Init) ∷ (codes "mod", symbol.Mod) ∷ (codes "monitor", symbol.Monitor) ∷ (codes "not", symbol.Not)
    ∷ (codes "of", symbol.Of) ∷ (codes "or", symbol.Or) ∷ (codes "procedure", symbol.Procedure) ∷ (codes "process", symbol.Process)
    ∷ (codes "program", symbol.Program) ∷ (codes "record", symbol.Record) ∷ (codes "repeat", symbol.Repeat) ∷ (codes "set", symbol.Set)
    ∷ (codes "then", symbol.Then) ∷ (codes "to", symbol.To) ∷ (codes "type", symbol.Type) ∷ (codes "univ", symbol.Univ)
    ∷ (codes "until", symbol.Until) ∷ (codes "var", symbol.Var) ∷ (codes "while", symbol.While) ∷ (codes "with", symbol.With) ∷ []

abbrev pub same_text : List ℕ → List ℕ → Bool
same_text [] [] = true
same_text [] (y ∷ ys) = false
same_text (x ∷ xs) [] = false
same_text (x ∷ xs) (y ∷ ys) = if x == y then same_text xs ys else false

-- the reserved word that is written like this, or else a name
abbrev pub word_among : List (List ℕ × Symbol) → List ℕ → Kind
word_among [] letters = kind.Name letters
word_among (w ∷ ws) letters = if same_text w.0 letters then kind.Symbol w.1 else word_among ws letters

-- the kind of token that a word in lower case is
abbrev pub kind_of_word : List ℕ → Kind
kind_of_word = word_among reserved_words

-- ---- marks

-- how a mark is written. Two marks can be written in two ways, and a reserved word isn't a mark
abbrev pub IsWritten : Symbol → List ℕ → Type 0
IsWritten symbol.Plus bytes = bytes ≡ codes "+"
IsWritten symbol.Minus bytes = bytes ≡ codes "-"
IsWritten symbol.Star bytes = bytes ≡ codes "*"
IsWritten symbol.Ampersand bytes = bytes ≡ codes "&"
IsWritten symbol.Equal bytes = bytes ≡ codes "="
IsWritten symbol.Unequal bytes = bytes ≡ codes "<>"
IsWritten symbol.Less bytes = bytes ≡ codes "<"
IsWritten symbol.Greater bytes = bytes ≡ codes ">"
IsWritten symbol.AtMost bytes = bytes ≡ codes "<="
IsWritten symbol.AtLeast bytes = bytes ≡ codes ">="
IsWritten symbol.OpenParenthesis bytes = bytes ≡ codes "("
IsWritten symbol.CloseParenthesis bytes = bytes ≡ codes ")"
IsWritten symbol.OpenBracket bytes = (bytes ≡ codes "[") ⊎ (bytes ≡ codes "(.")
IsWritten symbol.CloseBracket bytes = (bytes ≡ codes "]") ⊎ (bytes ≡ codes ".)")
IsWritten symbol.Comma bytes = bytes ≡ codes ","
IsWritten symbol.Semicolon bytes = bytes ≡ codes ";"
IsWritten symbol.Colon bytes = bytes ≡ codes ":"
IsWritten symbol.Assign bytes = bytes ≡ codes ":="
IsWritten symbol.Dot bytes = bytes ≡ codes "."
IsWritten symbol.DotDot bytes = bytes ≡ codes ".."
IsWritten _ bytes = ⊥

-- with this byte after it, the mark would be the beginning of a longer one
abbrev pub grows : Symbol → ℕ → Bool
grows symbol.Less b = b == 61 || b == 62
grows symbol.Greater b = b == 61
grows symbol.OpenParenthesis b = b == 46
grows symbol.Colon b = b == 61
grows symbol.Dot b = b == 46 || b == 41
grows _ b = false

-- ---- pieces

-- every byte passes the test
abbrev pub Each : (ℕ → Bool) → List ℕ → Type 0
Each p [] = Unit {0}
Each p (b ∷ bs) = (p b ≡ true) × Each p bs

-- the text doesn't continue with a byte that passes the test
abbrev pub Stops : (ℕ → Bool) → List ℕ → Type 0
Stops p [] = Unit {0}
Stops p (b ∷ bs) = p b ≡ false

-- the bytes are a whole word, before this rest
abbrev pub IsWord : Kind → List ℕ → List ℕ → Type 0
IsWord k [] rest = ⊥
IsWord k (b ∷ bs) rest =
    (is_letter b ≡ true) × Each is_in_word bs × Stops is_in_word rest × (length (b ∷ bs) ≤ 64) × (k ≡ kind_of_word (map lower (b ∷ bs)))

-- the bytes are all the digits of this number, before this rest
abbrev pub IsNumber : ℕ → List ℕ → List ℕ → Type 0
IsNumber n [] rest = ⊥
IsNumber n (b ∷ bs) rest = Each is_digit (b ∷ bs) × Stops is_digit rest × (decimal_value (b ∷ bs) ≤ 32767) × (n ≡ decimal_value (b ∷ bs))

-- a character between apostrophes
abbrev pub IsShown : ℕ → List ℕ → Type 0
IsShown n bytes = (is_printable n ≡ true) × (is_apostrophe n ≡ false) × (bytes ≡ 39 ∷ n ∷ 39 ∷ [])

-- an ordinal of one to three digits between `'(:` and `:)'`
abbrev pub IsCoded : ℕ → List ℕ → Type 0
IsCoded n bytes = (digits : List ℕ) × Each is_digit digits × (1 ≤ length digits) × (length digits ≤ 3) × (decimal_value digits ≤ 127)
    × (n ≡ decimal_value digits) × (bytes ≡ 39 ∷ 40 ∷ 58 ∷ (digits ++ 58 ∷ 41 ∷ 39 ∷ []))

abbrev pub IsCharacter : ℕ → List ℕ → Type 0
IsCharacter n bytes = IsShown n bytes ⊎ IsCoded n bytes

-- a mark, if no longer one fits
abbrev pub IsMark : Symbol → List ℕ → List ℕ → Type 0
IsMark m bytes rest = IsWritten m bytes × Stops (grows m) rest

-- a blank, or a comment: any bytes but `"` between two `"`
abbrev pub IsSeparator : List ℕ → Type 0
IsSeparator [] = ⊥
IsSeparator (b ∷ bs) = ((is_blank b ≡ true) × (bs ≡ []))
    ⊎ ((is_quote b ≡ true) × ((inner : List ℕ) × Each (λ c. not (is_quote c)) inner × (bs ≡ inner ++ 34 ∷ [])))

-- the bytes spell a token of this kind, or a separator, if this rest follows
abbrev pub IsPiece : Option Kind → List ℕ → List ℕ → Type 0
IsPiece None bytes rest = IsSeparator bytes
IsPiece (Some (kind.Number n)) bytes rest = IsNumber n bytes rest
IsPiece (Some (kind.Character n)) bytes rest = IsCharacter n bytes
IsPiece (Some (kind.Name letters)) bytes rest = IsWord (kind.Name letters) bytes rest
IsPiece (Some (kind.Symbol x)) bytes rest = IsWord (kind.Symbol x) bytes rest ⊎ IsMark x bytes rest

-- puts a token of this kind, with these bytes, before the others; a separator adds none
abbrev pub with_token : Option Kind → ℕ → ℕ → List Token → List Token
with_token None from to tokens = tokens
with_token (Some k) from to tokens = record { kind = k; span = record { from = from; to = to } } ∷ tokens

-- from this place on the text consists of these pieces, up to a rest, and their tokens are these
abbrev pub Row : ℕ → List (Option Kind × List ℕ) → List ℕ → List Token → List ℕ → Type 0
Row at [] text tokens last = (text ≡ last) × (tokens ≡ [])
Row at (p ∷ ps) text tokens last = (rest : List ℕ) × (others : List Token) × (text ≡ p.1 ++ rest) × IsPiece p.0 p.1 rest
    × (tokens ≡ with_token p.0 at (at + length p.1) others) × Row (at + length p.1) ps rest others last

-- the tokens spell the text
abbrev pub Spells : List ℕ → List Token → Type 0
Spells text tokens = (pieces : List (Option Kind × List ℕ)) × Row 0 pieces text tokens []

-- ---- texts that have no tokens

-- the text up to this place consists of pieces, and this is what follows
abbrev pub SpelledUpTo : List ℕ → ℕ → List ℕ → Type 0
SpelledUpTo text at rest =
    (pieces : List (Option Kind × List ℕ)) × (tokens : List Token) × Row 0 pieces text tokens rest × (length text ≡ at + length rest)

-- the text continues with at least n bytes that pass the test
abbrev pub Runs : (ℕ → Bool) → ℕ → List ℕ → Type 0
Runs p n text = (run : List ℕ) × (rest : List ℕ) × (text ≡ run ++ rest) × Each p run × (n ≤ length run)

-- no token and no separator begins with the byte
abbrev pub IsBadByte : List ℕ → Type 0
IsBadByte [] = ⊥
IsBadByte (b ∷ bs) = (is_blank b ≡ false) × (is_quote b ≡ false) × (is_apostrophe b ≡ false) × (is_digit b ≡ false) × (is_letter b ≡ false)
    × ((m : Symbol) (more : List ℕ) → IsWritten m (b ∷ more) → ⊥)

-- a comment that begins but doesn't end
abbrev pub IsOpenComment : List ℕ → Type 0
IsOpenComment [] = ⊥
IsOpenComment (b ∷ bs) = (is_quote b ≡ true) × Each (λ c. not (is_quote c)) bs

-- an apostrophe that begins no character constant
abbrev pub IsBadCharacter : List ℕ → Type 0
IsBadCharacter [] = ⊥
IsBadCharacter (b ∷ bs) = (is_apostrophe b ≡ true) × ((n : ℕ) (bytes rest : List ℕ) → b ∷ bs ≡ bytes ++ rest → IsCharacter n bytes → ⊥)

-- a number above the limit
abbrev pub IsLargeNumber : List ℕ → Type 0
IsLargeNumber text = (digits rest : List ℕ) × (text ≡ digits ++ rest) × Each is_digit digits × Stops is_digit rest × (32768 ≤ decimal_value digits)

-- a word of more than 64 letters, digits and underscores
abbrev pub IsLongWord : List ℕ → Type 0
IsLongWord [] = ⊥
IsLongWord (b ∷ bs) = (is_letter b ≡ true) × Runs is_in_word 65 (b ∷ bs)
