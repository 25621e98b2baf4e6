-- If a cause holds at the front of a text, `piece` returns it there.
use Rattle.std.proofs.Common.{◌≡◌, ℕ, ◌<◌, ◌≤◌, Bool, true, false, cond, nat_lt, List, [], ◌∷◌, ◌++◌, length, take, Some, Ok, Err, refl, sym, ap, subst, ◌∙◌, inl, arith}
use Rattle.std.specs.Prelude.{◌==◌}
use Rattle.std.proofs.Math.Seq.{take-append_seam}
use Rattle.std.proofs.lemmas.Bool.{and_parts, eqb-true, false_from_ne_true, le-ltb, lt-ltb}
use Rattle.cp_model.specs.Characters.{is_digit, is_in_word, is_apostrophe, decimal_value}
use Rattle.cp_model.specs.Spelling.{IsWritten, IsBadByte, IsOpenComment, IsBadCharacter, IsLargeNumber, IsLongWord, IsCharacter, Each, Stops}
use Rattle.cp_model.specs.Tokens as kind
use Rattle.cp_model.specs.declared.token.Symbol.{Symbol}
use Rattle.cp_model.specs.declared.token.Symbol.TheVariants as symbol
use Rattle.cp_scan.specs.declared.refusal.Cause.{Cause}
use Rattle.cp_scan.specs.declared.refusal.Cause.TheVariants as cause
use Rattle.cp_scan.specs.Laws.{IsCauseIn}
use Rattle.cp_scan.specs.Pieces.{Piece, run, longer_mark, mark, character, coded_character}
use Rattle.cp_scan.proofs.CharacterLaws.{piece_of_apostrophe, character_at, character_one, character_none, is_read, ordinal, shown, is_shown, is_ordinal}
use Rattle.cp_scan.proofs.Fronts.{front}
use Rattle.cp_scan.proofs.MarkLaws.{piece_of_mark}
use Rattle.cp_scan.proofs.NumberLaws.{number_at, piece_of_digit}
use Rattle.cp_scan.proofs.Runs.{run_append, run_all, run_least}
use Rattle.cp_scan.proofs.SeparatorLaws.{is_inside, comment_at, piece_of_quote}
use Rattle.cp_scan.proofs.WordLaws.{word_at, piece_of_letter}

-- ---- bytes

module _ (b : ℕ) (none : (m : Symbol) (more : List ℕ) → IsWritten m (b ∷ more) → ⊥) where
  -- the byte isn't the one byte of a mark
  never : (m : Symbol) (own : ℕ) → IsWritten m (own ∷ []) → (b == own) ≡ false
  never m own w = false_from_ne_true (b == own) (λ e. none m [] (subst (λ (v : ℕ). IsWritten m (v ∷ [])) (sym (eqb-true b own e)) w))

  no_mark : (c : ℕ) → mark b c ≡ Err cause.Byte
  unfolding mark longer_mark
  no_mark c =
      rw (
        never symbol.Plus 43 refl,
        never symbol.Minus 45 refl,
        never symbol.Star 42 refl,
        never symbol.Ampersand 38 refl,
        never symbol.Equal 61 refl,
        never symbol.CloseParenthesis 41 refl,
        never symbol.OpenBracket 91 (inl refl),
        never symbol.CloseBracket 93 (inl refl),
        never symbol.Comma 44 refl,
        never symbol.Semicolon 59 refl,
        never symbol.Less 60 refl,
        never symbol.Greater 62 refl,
        never symbol.Colon 58 refl,
        never symbol.Dot 46 refl,
        never symbol.OpenParenthesis 40 refl,
      )
      refl

byte_again : (text : List ℕ) → IsBadByte text → front text ≡ Err cause.Byte
byte_again [] h = absurd h
byte_again (b ∷ rest) h = piece_of_mark b rest h.0 h.1 h.2 h.3 h.4 rest ∙ no_mark b h.5 _

-- ---- comments

comment_again : (text : List ℕ) → IsOpenComment text → front text ≡ Err cause.Comment
comment_again [] h = absurd h
comment_again (b ∷ rest) h =
    piece_of_quote b rest h.0
    ∙ comment_at rest (length rest) (run_all is_inside rest h.1)
    ∙ rw (le-ltb (length rest) (length rest) (omega arith)) refl

-- ---- character constants

module _ (b : ℕ) (apostrophe : is_apostrophe b ≡ true) where
  NoCharacter : List ℕ → Type 0
  NoCharacter rest = (n : ℕ) (bytes behind : List ℕ) → b ∷ rest ≡ bytes ++ behind → IsCharacter n bytes → ⊥

  no_ordinal : (rest : List ℕ) → NoCharacter (40 ∷ 58 ∷ rest) → coded_character rest ≡ Err cause.Character
  unfolding NoCharacter
  no_ordinal rest none =
      is_read b rest apostrophe
      ∙ rw (false_from_ne_true _ (λ e. let h = ordinal b rest apostrophe e in none _ h.0 h.1 h.2 h.4)) refl

  no_code : (n c : ℕ) (rest : List ℕ) (t : Bool) → is_ordinal n c ≡ t → NoCharacter (n ∷ c ∷ rest)
      → cond {A = Piece} t (coded_character rest) (Err cause.Character) ≡ Err cause.Character
  no_code n c rest false e none = refl
  no_code n c rest true e none =
      let p = and_parts (n == 40) (c == 58) e in
      let second = subst (λ (v : ℕ). NoCharacter (n ∷ v ∷ rest)) (eqb-true c 58 p.1) none in
      no_ordinal rest (subst (λ (v : ℕ). NoCharacter (v ∷ 58 ∷ rest)) (eqb-true n 40 p.0) second)

  no_character : (rest : List ℕ) → NoCharacter rest → character rest ≡ Err cause.Character
  unfolding NoCharacter
  no_character [] none = character_none
  no_character (n ∷ []) none = character_one n
  no_character (n ∷ c ∷ rest) none =
      character_at n c rest
      ∙ rw (false_from_ne_true (is_shown n c) (λ e. let h = shown b n c rest apostrophe e in none n h.0 h.1 h.2 h.4))
      (no_code n c rest (is_ordinal n c) refl none)

character_again : (text : List ℕ) → IsBadCharacter text → front text ≡ Err cause.Character
unfolding NoCharacter
character_again [] h = absurd h
character_again (b ∷ rest) h = piece_of_apostrophe b rest h.0 ∙ no_character b h.0 rest h.1

-- ---- numbers and words

large : (n : ℕ) (text digits : List ℕ) → text ≡ digits → 32768 ≤ decimal_value digits
    → cond {A = Piece} (nat_lt 32767 (decimal_value text)) (Err cause.Number) (Ok (Some (kind.Number (decimal_value text)), n)) ≡ Err cause.Number
large n text digits e over = rw (e, lt-ltb 32767 (decimal_value digits) (omega arith)) refl

number_from : (digits rest : List ℕ) → Each is_digit digits → Stops is_digit rest → 32768 ≤ decimal_value digits
    → front (digits ++ rest) ≡ Err cause.Number
number_from [] rest each stops over = absurd (omega arith)
number_from (b ∷ ds) rest each stops over =
    piece_of_digit b (ds ++ rest) each.0
    ∙ number_at ((b ∷ ds) ++ rest) (length (b ∷ ds)) (run_append is_digit (b ∷ ds) rest each stops)
    ∙ large (length (b ∷ ds)) (take (length (b ∷ ds)) ((b ∷ ds) ++ rest)) (b ∷ ds) (take-append_seam (b ∷ ds) rest) over

number_again : (text : List ℕ) → IsLargeNumber text → front text ≡ Err cause.Number
number_again text h = ap (λ (w : List ℕ). front w) h.2 ∙ number_from h.0 h.1 h.3 h.4 h.5

word_again : (text : List ℕ) → IsLongWord text → front text ≡ Err cause.Word
word_again [] h = absurd h
word_again (b ∷ bs) h =
    let least = run_least is_in_word h.1.0 h.1.1 h.1.3 in
    let same = ap (λ (w : List ℕ). run is_in_word w) h.1.2 in
    let many = h.1.4 in
    let over : 64 < run is_in_word (b ∷ bs) = omega arith in
    piece_of_letter b bs h.0 ∙ word_at (b ∷ bs) (run is_in_word (b ∷ bs)) refl ∙ rw (lt-ltb 64 (run is_in_word (b ∷ bs)) over) refl

pub cause_again : (c : Cause) (text : List ℕ) → IsCauseIn c text → front text ≡ Err c
cause_again cause.Byte text h = byte_again text h
cause_again cause.Comment text h = comment_again text h
cause_again cause.Character text h = character_again text h
cause_again cause.Number text h = number_again text h
cause_again cause.Word text h = word_again text h
cause_again cause.Size text h = absurd h
