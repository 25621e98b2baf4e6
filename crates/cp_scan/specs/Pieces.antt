-- The piece at the front of a text, and all pieces of a text from left to right, as total functions
-- on lists of bytes.
-- The code computes these functions. That they agree with the relation of `Spelling` is proved
-- separately.
use Rattle.std.specs.Prelude.{ℕ, zero, suc, ◌+◌, Bool, ◌&&◌, not, nat_lt, nat_le, ◌==◌, if◌then◌else◌, List, [], ◌∷◌, ◌++◌, length, take, drop, map, Option, Some, None, Result, Ok, Err}
use Rattle.cp_model.specs.Characters.{is_blank, is_digit, is_letter, is_in_word, is_quote, is_apostrophe, is_printable, lower, decimal_value}
use Rattle.cp_model.specs.Spelling.{kind_of_word}
use Rattle.cp_model.specs.Tokens.{Kind}
use Rattle.cp_model.specs.Tokens as kind
use Rattle.cp_model.specs.declared.token.Symbol.{Symbol}
use Rattle.cp_model.specs.declared.token.Symbol.TheVariants as symbol
use Rattle.cp_model.specs.Tokens.{Token}
use Rattle.cp_scan.specs.declared.refusal.Cause.{Cause}
use Rattle.cp_scan.specs.declared.refusal.Cause.TheVariants as cause

-- The kind of a token, or `None` for a separator, and the length. If no piece begins here, it is
-- the cause.
abbrev pub Piece : Type 0
Piece = Result (Option Kind × ℕ) Cause

-- The number of bytes at the front that satisfy p.
abbrev pub run : (ℕ → Bool) → List ℕ → ℕ
run p [] = 0
run p (b ∷ bs) = if p b then suc (run p bs) else 0

abbrev pub head_or_zero : List ℕ → ℕ
head_or_zero [] = 0
head_or_zero (b ∷ bs) = b

-- ---- words and numbers, from their first byte

unfoldable pub word : List ℕ → Piece
word text =
    let n = run is_in_word text in
    if nat_lt 64 n then Err cause.Word else Ok (Some (kind_of_word (map lower (take n text))), n)

unfoldable pub number : List ℕ → Piece
number text =
    let n = run is_digit text in
    let value = decimal_value (take n text) in
    if nat_lt 32767 value then Err cause.Number else Ok (Some (kind.Number value), n)

-- ---- comments and character constants, after their first byte

unfoldable pub comment : List ℕ → Piece
comment rest =
    let n = run (λ b. not (is_quote b)) rest in
    if nat_lt n (length rest) then Ok (None, n + 2) else Err cause.Comment

-- The rest of a character constant after `'(:`.
unfoldable pub coded_character : List ℕ → Piece
coded_character rest =
    let n = run is_digit rest in
    let value = decimal_value (take n rest) in
    let behind = drop n rest in
    if nat_le 1 n && nat_le n 3 && nat_le value 127
    && head_or_zero behind == 58 && head_or_zero (drop 1 behind) == 41 && head_or_zero (drop 2 behind) == 39
    then Ok (Some (kind.Character value), n + 6) else Err cause.Character

unfoldable pub character : List ℕ → Piece
character rest =
    let b = head_or_zero rest in
    let c = head_or_zero (drop 1 rest) in
    if c == 39 && is_printable b && not (is_apostrophe b) then Ok (Some (kind.Character b), 3)
    else (if b == 40 && c == 58 then coded_character (drop 2 rest) else Err cause.Character)

-- ---- marks, by their first byte and the one after it

abbrev pub one : Symbol → Piece
one x = Ok (Some (kind.Symbol x), 1)

abbrev pub two : Symbol → Piece
two x = Ok (Some (kind.Symbol x), 2)

-- The marks that start like a longer one.
unfoldable pub longer_mark : ℕ → ℕ → Piece
longer_mark b c =
    if b == 60 then (if c == 61 then two symbol.AtMost else (if c == 62 then two symbol.Unequal else one symbol.Less))
    else (if b == 62 then (if c == 61 then two symbol.AtLeast else one symbol.Greater)
    else (if b == 58 then (if c == 61 then two symbol.Assign else one symbol.Colon)
    else (if b == 46 then (if c == 46 then two symbol.DotDot else (if c == 41 then two symbol.CloseBracket else one symbol.Dot))
    else (if b == 40 then (if c == 46 then two symbol.OpenBracket else one symbol.OpenParenthesis)
    else Err cause.Byte))))

unfoldable pub mark : ℕ → ℕ → Piece
mark b c =
    if b == 43 then one symbol.Plus
    else (if b == 45 then one symbol.Minus
    else (if b == 42 then one symbol.Star
    else (if b == 38 then one symbol.Ampersand
    else (if b == 61 then one symbol.Equal
    else (if b == 41 then one symbol.CloseParenthesis
    else (if b == 91 then one symbol.OpenBracket
    else (if b == 93 then one symbol.CloseBracket
    else (if b == 44 then one symbol.Comma
    else (if b == 59 then one symbol.Semicolon
    else longer_mark b c)))))))))

-- ---- any piece, by its first byte and what follows it

unfoldable pub piece : ℕ → List ℕ → Piece
piece b rest =
    if is_blank b then Ok (None, 1)
    else (if is_quote b then comment rest
    else (if is_apostrophe b then character rest
    else (if is_digit b then number (b ∷ rest)
    else (if is_letter b then word (b ∷ rest)
    else mark b (head_or_zero rest)))))

-- The piece at the front of a text that isn't empty.
abbrev pub first_piece : List ℕ → Piece
first_piece text = piece (head_or_zero text) (drop 1 text)

-- ---- all pieces of a text

-- The tokens, or the first cause and its place.
abbrev pub Outcome : Type 0
Outcome = Result (List Token) (Cause × ℕ)

abbrev pub with_token : Option Kind → ℕ → ℕ → List Token → List Token
with_token None from to found = found
with_token (Some k) from to found = found ++ record { kind = k; span = record { from = from; to = to } } ∷ []

-- The place after a piece and the tokens up to there, or the cause and its place.
abbrev pub Step : Type 0
Step = Result (ℕ × List Token) (Cause × ℕ)

-- The piece begins at `at`, and `found` are the tokens before it.
abbrev pub step : Piece → ℕ → List Token → Step
step (Ok x) at found = Ok (at + x.1, with_token x.0 at (at + x.1) found)
step (Err c) at found = Err (c, at)

abbrev pub continue_with : Piece → ℕ → (Option Kind → ℕ → Outcome) → Outcome
continue_with (Ok x) at f = f x.0 x.1
continue_with (Err c) at f = Err (c, at)

-- `n` bounds the number of pieces. Each piece has at least one byte, so the number of bytes is
-- enough.
unfoldable pub pieces : ℕ → ℕ → List ℕ → List Token → Outcome
pieces n at [] found = Ok found
pieces zero at (b ∷ rest) found = Ok found
pieces (suc n) at (b ∷ rest) found =
    continue_with (piece b rest) at (λ k len. pieces n (at + len) (drop len (b ∷ rest)) (with_token k at (at + len) found))

abbrev pub tokens_of : List ℕ → Outcome
tokens_of text = pieces (length text) 0 text []
