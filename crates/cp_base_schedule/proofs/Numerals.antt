-- Numbers read digit by digit.
use Rattle.std.proofs.Common.{◌≡◌, ◌+◌, ◌-◌, ◌*◌, ◌<◌, ◌≤◌, ◌^◌, ℕ, Bool, true, false, cond, List, [], ◌∷◌, length, get_or, drop, refl, ap, sym, ◌∙◌, arith}
use Rattle.std.specs.Prelude.{None, Option, Some, nat_le}
use Rattle.std.specs.Bool.{then_some}
use Rattle.std.proofs.lemmas.List.{at_drop_more, at_drop_all}
use Rattle.std.proofs.lemmas.Bool.Decides.{nat_tests}
use Rattle.cp_model.specs.OrderText.{at_most, is_digit, number_from}

-- A number that is too large stays so with more digits.
pub too_large : (most value : ℕ) (digits : List ℕ) → most < value → at_most most (number_from value digits) ≡ None
too_large most value [] large = by (nat_le value most) refl
  where
    by : (b : Bool) → nat_le value most ≡ b → at_most most (Some value) ≡ None
    by true e = absurd (grind (arith, nat_tests))
    by false e = ap (λ (b : Bool). cond b (Some value) None) e
too_large most value (d ∷ digits) large = by (is_digit d) (too_large most (10 * value + (d - 48)) digits (omega arith))
  where
    by : (b : Bool) → at_most most (number_from (10 * value + (d - 48)) digits) ≡ None
        → at_most most (cond b (number_from (10 * value + (d - 48)) digits) None) ≡ None
    by true rest = rest
    by false rest = refl

-- ---- One digit more

module _ (digits : List ℕ) (value i : ℕ) (inside : i < length digits) where
  next : is_digit (get_or digits i 0) ≡ true
      → number_from value (drop i digits) ≡ number_from (10 * value + (get_or digits i 0 - 48)) (drop (i + 1) digits)
  next is =
      let d : ℕ = get_or digits i 0 in
      let after : Option ℕ = number_from (10 * value + (d - 48)) (drop (i + 1) digits) in
      at_drop_more (number_from value) digits i 0 inside ∙ ap (λ (b : Bool). cond b after None) is

  pub digit_added : (more : ℕ) → (is_digit (get_or digits i 0) ≡ true) × (more ≡ 10 * value + (get_or digits i 0 - 48))
      → number_from more (drop (i + 1) digits) ≡ number_from value (drop i digits)
  digit_added more h = ap (λ (v : ℕ). number_from v (drop (i + 1) digits)) h.1 ∙ sym (next h.0)

  pub digit_refused : (most : ℕ) → most < 2 ^ 64 → (is_digit (get_or digits i 0) ≡ true → 2 ^ 64 ≤ 10 * value + (get_or digits i 0 - 48))
      → at_most most (number_from value (drop i digits)) ≡ None
  digit_refused most below large = by (is_digit (get_or digits i 0)) refl
    where
      by : (b : Bool) → is_digit (get_or digits i 0) ≡ b → at_most most (number_from value (drop i digits)) ≡ None
      by true is =
          let most_is : most < 10 * value + (get_or digits i 0 - 48) = omega (arith, large is) in
          ap (at_most most) (next is) ∙ too_large most (10 * value + (get_or digits i 0 - 48)) (drop (i + 1) digits) most_is
      by false is =
          let after : Option ℕ = number_from (10 * value + (get_or digits i 0 - 48)) (drop (i + 1) digits) in
          ap (at_most most) (at_drop_more (number_from value) digits i 0 inside ∙ ap (λ (b : Bool). cond b after None) is)

pub digits_end : (digits : List ℕ) (value i most : ℕ) → length digits ≤ i → number_from value (drop i digits) ≡ number_from 0 digits
    → then_some (nat_le value most) value ≡ at_most most (number_from 0 digits)
digits_end digits value i most past was =
    if_at_most (nat_le value most) ∙ ap (at_most most) (sym (at_drop_all (number_from value) digits i past) ∙ was)
  where
    if_at_most : (b : Bool) → then_some b value ≡ cond b (Some value) None
    if_at_most true = refl
    if_at_most false = refl
