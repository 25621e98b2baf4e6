-- The bytes of a text: which of them begin or continue a word, a number or a mark.
use Rattle.std.specs.Prelude.{ℕ, ◌+◌, ◌-◌, ◌*◌, Bool, ◌||◌, ◌&&◌, nat_le, ◌==◌, if◌then◌else◌, List, fold}

-- a tab, a line feed, a carriage return or a space
abbrev pub is_blank : ℕ → Bool
is_blank b = b == 9 || b == 10 || b == 13 || b == 32

abbrev pub is_digit : ℕ → Bool
is_digit b = nat_le 48 b && nat_le b 57

abbrev pub is_letter : ℕ → Bool
is_letter b = (nat_le 65 b && nat_le b 90) || (nat_le 97 b && nat_le b 122)

-- letters, digits and underscores continue a word
abbrev pub is_in_word : ℕ → Bool
is_in_word b = is_letter b || is_digit b || b == 95

abbrev pub is_quote : ℕ → Bool
is_quote b = b == 34

abbrev pub is_apostrophe : ℕ → Bool
is_apostrophe b = b == 39

-- the printable bytes; a character constant may show any of them but the apostrophe as itself
abbrev pub is_printable : ℕ → Bool
is_printable b = nat_le 32 b && nat_le b 126

-- a byte, in lower case if it is a letter
abbrev pub lower : ℕ → ℕ
lower b = if nat_le 65 b && nat_le b 90 then b + 32 else b

-- the value of a list of decimal digits
abbrev pub decimal_value : List ℕ → ℕ
decimal_value = fold (λ n b. 10 * n + (b - 48)) 0
