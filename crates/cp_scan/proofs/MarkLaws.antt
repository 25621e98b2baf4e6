-- A mark is read as it is written, unless a longer one fits. What is read is a mark, or a byte that
-- begins none.
use Rattle.std.proofs.Common.{◌≡◌, ℕ, suc, true, false, cond, ◌||◌, List, [], ◌∷◌, ◌++◌, length, Some, Ok, Err, refl, sym, subst, ◌∙◌, inl, inr}
use Rattle.std.specs.Prelude.{◌==◌}
use Rattle.std.proofs.lemmas.Bool.{eqb-true, or_parts, or_from}
use Rattle.cp_model.specs.Characters.{is_blank, is_digit, is_letter, is_quote, is_apostrophe}
use Rattle.cp_model.specs.Spelling.{IsWritten, IsBadByte, Stops, grows}
use Rattle.cp_model.specs.Tokens as kind
use Rattle.cp_model.specs.declared.token.Symbol.{Symbol}
use Rattle.cp_model.specs.declared.token.Symbol.TheVariants as symbol
use Rattle.cp_scan.specs.declared.refusal.Cause.TheVariants as cause
use Rattle.cp_scan.specs.Pieces.{Piece, head_or_zero, one, two, longer_mark, mark, piece}
use Rattle.cp_scan.proofs.Fronts.{front, Holds, by_test}

-- ---- read as it is written

IsRead : Symbol → List ℕ → List ℕ → Type 0
IsRead x bytes rest = front (bytes ++ rest) ≡ Ok (Some (kind.Symbol x), length bytes)

-- the mark is read, whatever follows
written : (x : Symbol) (bytes own rest : List ℕ) → bytes ≡ own → IsRead x own rest → IsRead x bytes rest
written x bytes own rest e h = subst (λ (w : List ℕ). IsRead x w rest) (sym e) h

less_again : (rest : List ℕ) → Stops (grows symbol.Less) rest → IsRead symbol.Less (60 ∷ []) rest
unfolding IsRead piece mark longer_mark
less_again [] s = refl
less_again (c ∷ rest) s = let p = or_parts (c == 61) (c == 62) s in rw (p.0, p.1) refl

greater_again : (rest : List ℕ) → Stops (grows symbol.Greater) rest → IsRead symbol.Greater (62 ∷ []) rest
unfolding IsRead piece mark longer_mark
greater_again [] s = refl
greater_again (c ∷ rest) s = rw s refl

parenthesis_again : (rest : List ℕ) → Stops (grows symbol.OpenParenthesis) rest → IsRead symbol.OpenParenthesis (40 ∷ []) rest
unfolding IsRead piece mark longer_mark
parenthesis_again [] s = refl
parenthesis_again (c ∷ rest) s = rw s refl

colon_again : (rest : List ℕ) → Stops (grows symbol.Colon) rest → IsRead symbol.Colon (58 ∷ []) rest
unfolding IsRead piece mark longer_mark
colon_again [] s = refl
colon_again (c ∷ rest) s = rw s refl

dot_again : (rest : List ℕ) → Stops (grows symbol.Dot) rest → IsRead symbol.Dot (46 ∷ []) rest
unfolding IsRead piece mark longer_mark
dot_again [] s = refl
dot_again (c ∷ rest) s = let p = or_parts (c == 46) (c == 41) s in rw (p.0, p.1) refl

pub mark_again : (x : Symbol) (bytes rest : List ℕ) → IsWritten x bytes → Stops (grows x) rest
    → front (bytes ++ rest) ≡ Ok (Some (kind.Symbol x), length bytes)
unfolding IsRead piece mark longer_mark
mark_again symbol.Plus bytes rest e s = written symbol.Plus bytes (43 ∷ []) rest e refl
mark_again symbol.Minus bytes rest e s = written symbol.Minus bytes (45 ∷ []) rest e refl
mark_again symbol.Star bytes rest e s = written symbol.Star bytes (42 ∷ []) rest e refl
mark_again symbol.Ampersand bytes rest e s = written symbol.Ampersand bytes (38 ∷ []) rest e refl
mark_again symbol.Equal bytes rest e s = written symbol.Equal bytes (61 ∷ []) rest e refl
mark_again symbol.CloseParenthesis bytes rest e s = written symbol.CloseParenthesis bytes (41 ∷ []) rest e refl
mark_again symbol.Comma bytes rest e s = written symbol.Comma bytes (44 ∷ []) rest e refl
mark_again symbol.Semicolon bytes rest e s = written symbol.Semicolon bytes (59 ∷ []) rest e refl
mark_again symbol.OpenBracket bytes rest (inl e) s = written symbol.OpenBracket bytes (91 ∷ []) rest e refl
mark_again symbol.OpenBracket bytes rest (inr e) s = written symbol.OpenBracket bytes (40 ∷ 46 ∷ []) rest e refl
mark_again symbol.CloseBracket bytes rest (inl e) s = written symbol.CloseBracket bytes (93 ∷ []) rest e refl
mark_again symbol.CloseBracket bytes rest (inr e) s = written symbol.CloseBracket bytes (46 ∷ 41 ∷ []) rest e refl
mark_again symbol.Unequal bytes rest e s = written symbol.Unequal bytes (60 ∷ 62 ∷ []) rest e refl
mark_again symbol.AtMost bytes rest e s = written symbol.AtMost bytes (60 ∷ 61 ∷ []) rest e refl
mark_again symbol.AtLeast bytes rest e s = written symbol.AtLeast bytes (62 ∷ 61 ∷ []) rest e refl
mark_again symbol.Assign bytes rest e s = written symbol.Assign bytes (58 ∷ 61 ∷ []) rest e refl
mark_again symbol.DotDot bytes rest e s = written symbol.DotDot bytes (46 ∷ 46 ∷ []) rest e refl
mark_again symbol.Less bytes rest e s = written symbol.Less bytes (60 ∷ []) rest e (less_again rest s)
mark_again symbol.Greater bytes rest e s = written symbol.Greater bytes (62 ∷ []) rest e (greater_again rest s)
mark_again symbol.OpenParenthesis bytes rest e s = written symbol.OpenParenthesis bytes (40 ∷ []) rest e (parenthesis_again rest s)
mark_again symbol.Colon bytes rest e s = written symbol.Colon bytes (58 ∷ []) rest e (colon_again rest s)
mark_again symbol.Dot bytes rest e s = written symbol.Dot bytes (46 ∷ []) rest e (dot_again rest s)
mark_again _ bytes rest e s = absurd e

-- ---- the other way

-- the bytes of a mark, each replaced by an equal one
same_byte : (x : Symbol) (b own : ℕ) (bytes : List ℕ) → (b == own) ≡ true → IsWritten x (own ∷ bytes) → IsWritten x (b ∷ bytes)
same_byte x b own bytes e w = subst (λ (v : ℕ). IsWritten x (v ∷ bytes)) (sym (eqb-true b own e)) w

same_second : (x : Symbol) (own c next : ℕ) → (c == next) ≡ true → IsWritten x (own ∷ next ∷ []) → IsWritten x (own ∷ c ∷ [])
same_second x own c next e w = subst (λ (v : ℕ). IsWritten x (own ∷ v ∷ [])) (sym (eqb-true c next e)) w

-- no byte continues a mark that doesn't start like a longer one
quiet : (x : Symbol) (rest : List ℕ) → ((c : ℕ) → grows x c ≡ false) → Stops (grows x) rest
quiet x [] never = tt
quiet x (c ∷ rest) never = never c

-- the next byte isn't the one, or one of the two, that continue the mark
stops_one : (x : Symbol) (n : ℕ) (rest : List ℕ) → ((c : ℕ) → grows x c ≡ (c == n)) → (head_or_zero rest == n) ≡ false
    → Stops (grows x) rest
stops_one x n [] by_byte f = tt
stops_one x n (c ∷ rest) by_byte f = by_byte c ∙ f

stops_two : (x : Symbol) (n m : ℕ) (rest : List ℕ) → ((c : ℕ) → grows x c ≡ (c == n || c == m)) → (head_or_zero rest == n) ≡ false
    → (head_or_zero rest == m) ≡ false → Stops (grows x) rest
stops_two x n m [] by_byte f g = tt
stops_two x n m (c ∷ rest) by_byte f g = by_byte c ∙ or_from (c == n) (c == m) f g

one_holds : (x : Symbol) (own b : ℕ) (rest : List ℕ) → IsWritten x (own ∷ []) → Stops (grows x) rest → (b == own) ≡ true
    → Holds (b ∷ rest) (one x)
one_holds x own b rest w stops e = (b ∷ [], rest, refl, refl, inr (same_byte x b own [] e w, stops))

two_holds : (x : Symbol) (own next b : ℕ) (rest : List ℕ) → IsWritten x (own ∷ suc next ∷ []) → ((c : ℕ) → grows x c ≡ false)
    → (b == own) ≡ true → (head_or_zero rest == suc next) ≡ true → Holds (b ∷ rest) (two x)
two_holds x own next b [] w never e f = absurd (let z = eqb-true 0 (suc next) f in cc)
two_holds x own next b (c ∷ rest) w never e f =
    (b ∷ c ∷ [], rest, refl, refl, inr (same_byte x b own (c ∷ []) e (same_second x own c (suc next) f w), quiet x rest never))

module _ (b : ℕ) (rest : List ℕ) (no_blank : is_blank b ≡ false) (no_quote : is_quote b ≡ false)
    (no_apostrophe : is_apostrophe b ≡ false) (no_digit : is_digit b ≡ false) (no_letter : is_letter b ≡ false) where
  pub piece_of_mark : (behind : List ℕ) → piece b behind ≡ mark b (head_or_zero behind)
  unfolding piece
  piece_of_mark behind = rw (no_blank, no_quote, no_apostrophe, no_digit, no_letter) refl

  bad_byte : ((c : ℕ) → mark b c ≡ Err cause.Byte) → IsBadByte (b ∷ rest)
  bad_byte none = (
    no_blank,
    no_quote,
    no_apostrophe,
    no_digit,
    no_letter,
    λ m more w.
        let again : front (b ∷ more ++ []) ≡ Ok (Some (kind.Symbol m), length (b ∷ more)) = mark_again m (b ∷ more) [] w tt in
        let other : front (b ∷ more ++ []) ≡ Err cause.Byte = piece_of_mark (more ++ []) ∙ none (head_or_zero (more ++ [])) in
        cc,
  )

  -- whether the next byte is this one
  by_next : (n : ℕ) (x y : Piece) → ((head_or_zero rest == n) ≡ true → Holds (b ∷ rest) x) → ((head_or_zero rest == n) ≡ false → Holds (b ∷ rest) y)
      → Holds (b ∷ rest) (cond (head_or_zero rest == n) x y)
  by_next n x y at_next at_other = by_test (b ∷ rest) (head_or_zero rest == n) x y at_next at_other

  less_holds : (b == 60) ≡ true
      → Holds (b ∷ rest) (cond (head_or_zero rest == 61) (two symbol.AtMost) (cond (head_or_zero rest == 62) (two symbol.Unequal) (one symbol.Less)))
  less_holds e =
      by_next 61 _ _ (λ t. two_holds symbol.AtMost 60 60 b rest refl (λ c. refl) e t) (λ f.
      by_next 62 _ _ (λ t. two_holds symbol.Unequal 60 61 b rest refl (λ c. refl) e t) (λ g.
      one_holds symbol.Less 60 b rest refl (stops_two symbol.Less 61 62 rest (λ c. refl) f g) e))

  greater_holds : (b == 62) ≡ true → Holds (b ∷ rest) (cond (head_or_zero rest == 61) (two symbol.AtLeast) (one symbol.Greater))
  greater_holds e =
      by_next 61 _ _ (λ t. two_holds symbol.AtLeast 62 60 b rest refl (λ c. refl) e t) (λ f.
      one_holds symbol.Greater 62 b rest refl (stops_one symbol.Greater 61 rest (λ c. refl) f) e)

  colon_holds : (b == 58) ≡ true → Holds (b ∷ rest) (cond (head_or_zero rest == 61) (two symbol.Assign) (one symbol.Colon))
  colon_holds e =
      by_next 61 _ _ (λ t. two_holds symbol.Assign 58 60 b rest refl (λ c. refl) e t) (λ f.
      one_holds symbol.Colon 58 b rest refl (stops_one symbol.Colon 61 rest (λ c. refl) f) e)

  dot_holds : (b == 46) ≡ true
      → Holds (b ∷ rest) (cond (head_or_zero rest == 46) (two symbol.DotDot) (cond (head_or_zero rest == 41) (two symbol.CloseBracket) (one symbol.Dot)))
  dot_holds e =
      by_next 46 _ _ (λ t. two_holds symbol.DotDot 46 45 b rest refl (λ c. refl) e t) (λ f.
      by_next 41 _ _ (λ t. two_holds symbol.CloseBracket 46 40 b rest (inr refl) (λ c. refl) e t) (λ g.
      one_holds symbol.Dot 46 b rest refl (stops_two symbol.Dot 46 41 rest (λ c. refl) f g) e))

  parenthesis_holds : (b == 40) ≡ true → Holds (b ∷ rest) (cond (head_or_zero rest == 46) (two symbol.OpenBracket) (one symbol.OpenParenthesis))
  parenthesis_holds e =
      by_next 46 _ _ (λ t. two_holds symbol.OpenBracket 40 45 b rest (inr refl) (λ c. refl) e t) (λ f.
      one_holds symbol.OpenParenthesis 40 b rest refl (stops_one symbol.OpenParenthesis 46 rest (λ c. refl) f) e)

  longer_holds : ((c : ℕ) → mark b c ≡ longer_mark b c) → Holds (b ∷ rest) (longer_mark b (head_or_zero rest))
  unfolding longer_mark
  longer_holds goes =
      by_test (b ∷ rest) (b == 60) _ _ less_holds (λ f1.
      by_test (b ∷ rest) (b == 62) _ _ greater_holds (λ f2.
      by_test (b ∷ rest) (b == 58) _ _ colon_holds (λ f3.
      by_test (b ∷ rest) (b == 46) _ _ dot_holds (λ f4.
      by_test (b ∷ rest) (b == 40) _ _ parenthesis_holds (λ f5.
      bad_byte (λ c. goes c ∙ rw (f1, f2, f3, f4, f5) refl))))))

  -- a mark of one byte, whatever follows it
  only : (x : Symbol) (own : ℕ) → IsWritten x (own ∷ []) → ((c : ℕ) → grows x c ≡ false) → (b == own) ≡ true → Holds (b ∷ rest) (one x)
  only x own w never e = one_holds x own b rest w (quiet x rest never) e

  pub mark_holds : Holds (b ∷ rest) (mark b (head_or_zero rest))
  unfolding mark
  mark_holds =
      by_test (b ∷ rest) (b == 43) _ _ (only symbol.Plus 43 refl (λ c. refl)) (λ f1.
      by_test (b ∷ rest) (b == 45) _ _ (only symbol.Minus 45 refl (λ c. refl)) (λ f2.
      by_test (b ∷ rest) (b == 42) _ _ (only symbol.Star 42 refl (λ c. refl)) (λ f3.
      by_test (b ∷ rest) (b == 38) _ _ (only symbol.Ampersand 38 refl (λ c. refl)) (λ f4.
      by_test (b ∷ rest) (b == 61) _ _ (only symbol.Equal 61 refl (λ c. refl)) (λ f5.
      by_test (b ∷ rest) (b == 41) _ _ (only symbol.CloseParenthesis 41 refl (λ c. refl)) (λ f6.
      by_test (b ∷ rest) (b == 91) _ _ (only symbol.OpenBracket 91 (inl refl) (λ c. refl)) (λ f7.
      by_test (b ∷ rest) (b == 93) _ _ (only symbol.CloseBracket 93 (inl refl) (λ c. refl)) (λ f8.
      by_test (b ∷ rest) (b == 44) _ _ (only symbol.Comma 44 refl (λ c. refl)) (λ f9.
      by_test (b ∷ rest) (b == 59) _ _ (only symbol.Semicolon 59 refl (λ c. refl)) (λ f10.
      longer_holds (λ c. rw (f1, f2, f3, f4, f5, f6, f7, f8, f9, f10) refl)))))))))))
