-- Bounds: what a count of the rules says about a count of the meaning. The rules count words to one
-- above the limit, so a count that is within the limit is the true one.
use Rattle.std.proofs.Common.{◌≡◌, ◌≤◌, ℕ, zero, suc, ◌*◌, ℤ, pos, negsuc, true, refl, arith}
use Rattle.std.specs.Prelude.{int_le}
use Rattle.cp_model.specs.RulesTypes.{at_most, cap_words, is_within, word_limit}
use Rattle.cp_model.specs.Places.{within}

pub capped_within : (n : ℕ) → cap_words n ≤ word_limit → cap_words n ≡ n
capped_within n h = omega (arith, h)

pub is_within_true : (n : ℕ) → is_within n ≡ true → n ≤ word_limit
is_within_true n h = grind (arith, h)

pub at_most-int_le : (a b : ℤ) → at_most a b ≡ true → within a b a ≡ true
at_most-int_le (pos a) (pos b) h = grind (arith, h)
at_most-int_le (pos a) (negsuc b) h = absurd (cc)
at_most-int_le (negsuc a) (pos b) h = grind (arith, h)
at_most-int_le (negsuc a) (negsuc b) h = grind (arith, h)

pub times_least : (m k n : ℕ) → k ≤ n → m * k ≤ m * n
times_least m k n h = grind (arith, h)

pub within_rises : (a b n : ℤ) → within a b n ≡ true → int_le a b ≡ true
within_rises (pos a) (pos b) (pos n) h = grind (arith, h)
within_rises (pos a) (pos b) (negsuc n) h = absurd (cc)
within_rises (pos a) (negsuc b) (pos n) h = grind (arith, h)
within_rises (pos a) (negsuc b) (negsuc n) h = absurd (cc)
within_rises (negsuc a) (pos b) n h = refl
within_rises (negsuc a) (negsuc b) (pos n) h = absurd (cc)
within_rises (negsuc a) (negsuc b) (negsuc n) h = grind (arith, h)

pub times_bound : (m a b : ℕ) → (b ≤ word_limit → a ≤ b) → m * b ≤ word_limit → m * a ≤ m * b
times_bound zero a b h k = grind arith
times_bound (suc m) a b h k =
    let one : b ≤ suc m * b = grind arith in
    times_least (suc m) a b (h (omega (arith, one, k)))
