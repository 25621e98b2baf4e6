-- A character constant is read as it is spelled. What is read after an apostrophe is one, or there
-- is none.
use Rattle.std.proofs.Common.{◌≡◌, ℕ, suc, ◌+◌, ◌≤◌, Bool, true, false, cond, not, ◌&&◌, nat_le, List, [], ◌∷◌, ◌++◌, length, take, drop, Some, Ok, Err, refl, sym, ap, subst, ◌∙◌, inl, inr, append_assoc, length-append, arith}
use Rattle.std.specs.Prelude.{◌==◌}
use Rattle.std.proofs.Math.Seq.{take-append_seam}
use Rattle.std.proofs.lemmas.Bool.{eqb-true, le-leb, leb-true, and_parts, and_right, not-true}
use Rattle.std.proofs.lemmas.List.{drop_at}
use Rattle.cp_model.specs.Characters.{is_digit, is_apostrophe, is_printable, decimal_value}
use Rattle.cp_model.specs.Spelling.{IsCharacter, IsBadCharacter, Each}
use Rattle.cp_model.specs.Tokens as kind
use Rattle.cp_scan.specs.declared.refusal.Cause.TheVariants as cause
use Rattle.cp_scan.specs.Pieces.{Piece, run, head_or_zero, coded_character, character, piece}
use Rattle.cp_scan.proofs.Fronts.{front, Holds, by_test}
use Rattle.cp_scan.proofs.Runs.{run_append, run_splits, run_each, length_run}

pub piece_of_apostrophe : (b : ℕ) (rest : List ℕ) → is_apostrophe b ≡ true → piece b rest ≡ character rest
unfolding piece
piece_of_apostrophe b rest h = rw (eqb-true b 39 h) refl

-- ---- read as it is spelled

shown_again : (n : ℕ) (rest : List ℕ) → is_printable n ≡ true → is_apostrophe n ≡ false → character (n ∷ 39 ∷ rest) ≡ Ok (Some (kind.Character n), 3)
unfolding character
shown_again n rest printable other = rw (printable, other) refl

-- what `coded_character` requires of the digits and of what follows them
abbrev pub is_small : ℕ → ℕ → Bool
is_small n value = nat_le 1 n && nat_le n 3 && nat_le value 127

abbrev pub is_closed : ℕ → ℕ → List ℕ → Bool
is_closed n value behind =
    is_small n value && head_or_zero behind == 58 && head_or_zero (drop 1 behind) == 41 && head_or_zero (drop 2 behind) == 39

-- the constant with `n` digits
abbrev pub constant_of : ℕ → List ℕ → Piece
constant_of n digits = Ok (Some (kind.Character (decimal_value digits)), n + 6)

coded_at : (rest : List ℕ) (n : ℕ) (digits behind : List ℕ) → run is_digit rest ≡ n → take n rest ≡ digits → drop n rest ≡ behind
    → coded_character rest ≡ cond (is_closed n (decimal_value digits) behind) (constant_of n digits) (Err cause.Character)
unfolding coded_character
coded_at rest n digits behind e d t = rw (e, d, t) refl

coded_again : (digits rest : List ℕ) → Each is_digit digits → 1 ≤ length digits → length digits ≤ 3 → decimal_value digits ≤ 127
    → coded_character (digits ++ 58 ∷ 41 ∷ 39 ∷ rest) ≡ Ok (Some (kind.Character (decimal_value digits)), length digits + 6)
coded_again digits rest each some few small =
    coded_at (digits ++ 58 ∷ 41 ∷ 39 ∷ rest) (length digits) digits (58 ∷ 41 ∷ 39 ∷ rest)
    (run_append is_digit digits (58 ∷ 41 ∷ 39 ∷ rest) each refl) (take-append_seam digits (58 ∷ 41 ∷ 39 ∷ rest))
    (drop_at digits (58 ∷ 41 ∷ 39 ∷ rest) (length digits) refl)
    ∙ rw (le-leb 1 (length digits) some, le-leb (length digits) 3 few, le-leb (decimal_value digits) 127 small) refl

pub by_ordinal : (rest : List ℕ) → character (40 ∷ 58 ∷ rest) ≡ coded_character rest
unfolding character
by_ordinal rest = refl

pub character_again : (n : ℕ) (bytes rest : List ℕ) → IsCharacter n bytes → front (bytes ++ rest) ≡ Ok (Some (kind.Character n), length bytes)
character_again n bytes rest (inl h) =
    let from : front ((39 ∷ n ∷ 39 ∷ []) ++ rest) ≡ Ok (Some (kind.Character n), 3) =
    piece_of_apostrophe 39 (n ∷ 39 ∷ rest) refl ∙ shown_again n rest h.0 h.1 in
    subst (λ (w : List ℕ). front (w ++ rest) ≡ Ok (Some (kind.Character n), length w)) (sym h.2) from
character_again n bytes rest (inr h) =
    let digits = h.0 in
    let whole : List ℕ = 39 ∷ 40 ∷ 58 ∷ (digits ++ 58 ∷ 41 ∷ 39 ∷ []) in
    let k = length-append digits (58 ∷ 41 ∷ 39 ∷ []) in
    let m : length digits + 6 ≡ length whole = omega arith in
    let from : front (whole ++ rest) ≡ Ok (Some (kind.Character n), length whole) =
    piece_of_apostrophe 39 (40 ∷ 58 ∷ ((digits ++ 58 ∷ 41 ∷ 39 ∷ []) ++ rest)) refl
    ∙ by_ordinal ((digits ++ 58 ∷ 41 ∷ 39 ∷ []) ++ rest)
    ∙ ap (λ (w : List ℕ). coded_character w) (append_assoc digits (58 ∷ 41 ∷ 39 ∷ []) rest)
    ∙ coded_again digits rest h.1 h.2 h.3 h.4
    ∙ ap (λ (v : ℕ). Ok (Some (kind.Character v), length digits + 6)) (sym h.5)
    ∙ ap (λ (v : ℕ). Ok (Some (kind.Character n), v)) m in
    subst (λ (w : List ℕ). front (w ++ rest) ≡ Ok (Some (kind.Character n), length w)) (sym h.6) from

-- ---- the other way

-- if the first byte is `suc c`, the text begins with it
head_is : (c : ℕ) (text : List ℕ) → (head_or_zero text == suc c) ≡ true → (rest : List ℕ) × (text ≡ suc c ∷ rest)
head_is c [] e = absurd (let z = eqb-true 0 (suc c) e in omega arith)
head_is c (b ∷ rest) e = (rest, ap (λ (v : ℕ). v ∷ rest) (eqb-true b (suc c) e))

bad_character : (b : ℕ) (rest : List ℕ) → is_apostrophe b ≡ true → character rest ≡ Err cause.Character → IsBadCharacter (b ∷ rest)
bad_character b rest h e = (
  h,
  λ n bytes behind splits is_one.
      let again = character_again n bytes behind is_one in
      let both : front (b ∷ rest) ≡ Ok (Some (kind.Character n), length bytes) = ap (λ (w : List ℕ). front w) splits ∙ again in
      let other : front (b ∷ rest) ≡ Err cause.Character = piece_of_apostrophe b rest h ∙ e in
      cc,
)

holds_shown : (b n : ℕ) (rest : List ℕ) → is_apostrophe b ≡ true → is_printable n ≡ true → is_apostrophe n ≡ false
    → Holds (b ∷ n ∷ 39 ∷ rest) (Ok (Some (kind.Character n), 3))
holds_shown b n rest h printable other =
    (b ∷ n ∷ 39 ∷ [], rest, refl, refl, inl (printable, other, ap (λ (v : ℕ). v ∷ n ∷ 39 ∷ []) (eqb-true b 39 h)))

-- the three bytes after the digits of an ordinal
end_is : (text : List ℕ) → (head_or_zero text == 58) ≡ true → (head_or_zero (drop 1 text) == 41) ≡ true
    → (head_or_zero (drop 2 text) == 39) ≡ true → (rest : List ℕ) × (text ≡ 58 ∷ 41 ∷ 39 ∷ rest)
end_is text x y z =
    let second : List ℕ → Type 0 = λ w. (head_or_zero (drop 1 w) == 41) ≡ true in
    let third : List ℕ → Type 0 = λ w. (head_or_zero (drop 2 w) == 39) ≡ true in
    let behind : List ℕ → Type 0 = λ w. (head_or_zero (drop 1 w) == 39) ≡ true in
    let a = head_is 57 text x in
    let b = head_is 40 a.0 (subst second a.1 y) in
    let c = head_is 38 b.0 (subst behind b.1 (subst third a.1 z)) in
    (c.0, a.1 ∙ ap (λ (w : List ℕ). 58 ∷ w) b.1 ∙ ap (λ (w : List ℕ). 58 ∷ 41 ∷ w) c.1)

-- what the tests of `is_closed` mean; they group to the left
small_parts : (n value : ℕ) → is_small n value ≡ true → (1 ≤ n) × (n ≤ 3) × (value ≤ 127)
small_parts n value h =
    let c = and_parts (nat_le 1 n && nat_le n 3) (nat_le value 127) h in
    let b = and_parts (nat_le 1 n) (nat_le n 3) c.0 in
    (leb-true 1 n b.0, leb-true n 3 b.1, leb-true value 127 c.1)

closed_parts : (n value : ℕ) (behind : List ℕ) → is_closed n value behind ≡ true
    → (is_small n value ≡ true) × ((rest : List ℕ) × (behind ≡ 58 ∷ 41 ∷ 39 ∷ rest))
closed_parts n value behind h =
    let x = head_or_zero behind == 58 in
    let y = head_or_zero (drop 1 behind) == 41 in
    let c = and_parts (is_small n value && x && y) (head_or_zero (drop 2 behind) == 39) h in
    let b = and_parts (is_small n value && x) y c.0 in
    let a = and_parts (is_small n value) x b.0 in
    (a.0, end_is behind a.1 b.1 c.1)

module _ (b : ℕ) (rest : List ℕ) (apostrophe : is_apostrophe b ≡ true) where
  pub digits : List ℕ
  digits = take (run is_digit rest) rest

  pub behind : List ℕ
  behind = drop (run is_digit rest) rest

  splits : rest ≡ digits ++ behind
  unfolding digits behind
  splits = run_splits is_digit rest

  is_long : length digits ≡ run is_digit rest
  unfolding digits
  is_long = length_run is_digit rest

  each : Each is_digit digits
  unfolding digits
  each = run_each is_digit rest

  pub is_read : coded_character rest ≡
      cond (is_closed (run is_digit rest) (decimal_value digits) behind) (constant_of (run is_digit rest) digits) (Err cause.Character)
  unfolding digits behind
  is_read = coded_at rest (run is_digit rest) (take (run is_digit rest) rest) (drop (run is_digit rest) rest) refl refl refl

  pub ordinal : is_closed (run is_digit rest) (decimal_value digits) behind ≡ true
      → Holds (b ∷ 40 ∷ 58 ∷ rest) (constant_of (run is_digit rest) digits)
  ordinal h =
      let p = closed_parts (run is_digit rest) (decimal_value digits) behind h in
      let q = small_parts (run is_digit rest) (decimal_value digits) p.0 in
      let l = is_long in
      let some : 1 ≤ length digits = let least = q.0 in omega arith in
      let few : length digits ≤ 3 = let most = q.1 in omega arith in
      let last : List ℕ = 58 ∷ 41 ∷ 39 ∷ [] in
      let k = length-append digits last in
      let e : rest ≡ (digits ++ last) ++ p.1.0 =
      splits ∙ ap (λ (w : List ℕ). digits ++ w) p.1.1 ∙ sym (append_assoc digits last p.1.0) in
      let opens : b ∷ 40 ∷ 58 ∷ (digits ++ last) ≡ 39 ∷ 40 ∷ 58 ∷ (digits ++ last) =
      ap (λ (v : ℕ). v ∷ 40 ∷ 58 ∷ (digits ++ last)) (eqb-true b 39 apostrophe) in
      (b ∷ 40 ∷ 58 ∷ (digits ++ last), p.1.0, ap (λ (w : List ℕ). b ∷ 40 ∷ 58 ∷ w) e, omega arith, inr (digits, each, some, few, q.2, refl, opens))

  no_ordinal : is_closed (run is_digit rest) (decimal_value digits) behind ≡ false → Holds (b ∷ 40 ∷ 58 ∷ rest) (Err cause.Character)
  no_ordinal h = bad_character b (40 ∷ 58 ∷ rest) apostrophe (by_ordinal rest ∙ is_read ∙ rw h refl)

  coded_holds : Holds (b ∷ 40 ∷ 58 ∷ rest) (coded_character rest)
  coded_holds = rw is_read (by_test (b ∷ 40 ∷ 58 ∷ rest) (is_closed (run is_digit rest) (decimal_value digits) behind) _ _ ordinal no_ordinal)

-- the two tests of `character`
abbrev pub is_shown : ℕ → ℕ → Bool
is_shown n c = c == 39 && is_printable n && not (is_apostrophe n)

abbrev pub is_ordinal : ℕ → ℕ → Bool
is_ordinal n c = n == 40 && c == 58

pub character_at : (n c : ℕ) (rest : List ℕ) → character (n ∷ c ∷ rest) ≡
    cond {A = Piece} (is_shown n c) (Ok (Some (kind.Character n), 3)) (cond (is_ordinal n c) (coded_character rest) (Err cause.Character))
unfolding character
character_at n c rest = refl

pub character_one : (n : ℕ) → character (n ∷ []) ≡ Err cause.Character
unfolding character
character_one n = rw (and_right (n == 40) false refl) refl

pub character_none : character [] ≡ Err cause.Character
unfolding character
character_none = refl

module _ (b n c : ℕ) (rest : List ℕ) (apostrophe : is_apostrophe b ≡ true) where
  pub shown : is_shown n c ≡ true → Holds (b ∷ n ∷ c ∷ rest) (Ok (Some (kind.Character n), 3))
  shown h =
      let q = and_parts (c == 39 && is_printable n) (not (is_apostrophe n)) h in
      let p = and_parts (c == 39) (is_printable n) q.0 in
      subst (λ (v : ℕ). Holds (b ∷ n ∷ v ∷ rest) (Ok (Some (kind.Character n), 3))) (sym (eqb-true c 39 p.0))
      (holds_shown b n rest apostrophe p.1 (not-true (is_apostrophe n) q.1))

  by_code : is_ordinal n c ≡ true → Holds (b ∷ n ∷ c ∷ rest) (coded_character rest)
  by_code h =
      let p = and_parts (n == 40) (c == 58) h in
      subst (λ (v : ℕ). Holds (b ∷ v ∷ c ∷ rest) (coded_character rest)) (sym (eqb-true n 40 p.0))
      (subst (λ (v : ℕ). Holds (b ∷ 40 ∷ v ∷ rest) (coded_character rest)) (sym (eqb-true c 58 p.1)) (coded_holds b rest apostrophe))

  no_other : is_shown n c ≡ false → is_ordinal n c ≡ false → Holds (b ∷ n ∷ c ∷ rest) (Err cause.Character)
  no_other f g = bad_character b (n ∷ c ∷ rest) apostrophe (character_at n c rest ∙ rw (f, g) refl)

  two_holds : Holds (b ∷ n ∷ c ∷ rest) (character (n ∷ c ∷ rest))
  two_holds = rw (character_at n c rest) (by_test (b ∷ n ∷ c ∷ rest) (is_shown n c) _ _ shown
      (λ f. by_test (b ∷ n ∷ c ∷ rest) (is_ordinal n c) _ _ by_code (λ g. no_other f g)))

pub character_holds : (b : ℕ) (rest : List ℕ) → is_apostrophe b ≡ true → Holds (b ∷ rest) (character rest)
character_holds b [] h = rw character_none (bad_character b [] h character_none)
character_holds b (n ∷ []) h = rw (character_one n) (bad_character b (n ∷ []) h (character_one n))
character_holds b (n ∷ c ∷ rest) h = two_holds b n c rest h
