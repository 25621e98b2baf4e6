-- A byte that begins one sort of piece begins no other.
use Rattle.std.proofs.Common.{◌≡◌, ℕ, true, false, refl, arith}
use Rattle.std.proofs.lemmas.Bool.Decides.{nat_tests}
use Rattle.cp_model.specs.Characters.{is_blank, is_digit, is_letter, is_in_word, is_quote, is_apostrophe}

pub digit_no_blank : (b : ℕ) → is_digit b ≡ true → is_blank b ≡ false
digit_no_blank b h = grind (arith, nat_tests)

pub digit_no_quote : (b : ℕ) → is_digit b ≡ true → is_quote b ≡ false
digit_no_quote b h = grind (arith, nat_tests)

pub digit_no_apostrophe : (b : ℕ) → is_digit b ≡ true → is_apostrophe b ≡ false
digit_no_apostrophe b h = grind (arith, nat_tests)

pub letter_no_blank : (b : ℕ) → is_letter b ≡ true → is_blank b ≡ false
letter_no_blank b h = grind (arith, nat_tests)

pub letter_no_quote : (b : ℕ) → is_letter b ≡ true → is_quote b ≡ false
letter_no_quote b h = grind (arith, nat_tests)

pub letter_no_apostrophe : (b : ℕ) → is_letter b ≡ true → is_apostrophe b ≡ false
letter_no_apostrophe b h = grind (arith, nat_tests)

pub letter_no_digit : (b : ℕ) → is_letter b ≡ true → is_digit b ≡ false
letter_no_digit b h = grind (arith, nat_tests)

pub letter_in_word : (b : ℕ) → is_letter b ≡ true → is_in_word b ≡ true
letter_in_word b h = rw h refl
