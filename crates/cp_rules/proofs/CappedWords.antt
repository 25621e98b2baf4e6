-- Words that are counted up to one above the limit.
use Rattle.std.proofs.Common.{◌≡◌, ◌≤◌, ◌+◌, ℕ, arith}
use Rattle.cp_model.specs.RulesTypes.{cap_words}

pub capped_most : (n w : ℕ) → n ≡ cap_words w → n ≤ 65537
capped_most n w h = omega (arith, h)

-- some words, those of one group, and those of the rest
pub capped_more : (words one group sum rest : ℕ) → one ≡ cap_words group → sum ≡ cap_words (words + one) → cap_words (sum + rest) ≡ cap_words (words + (group + rest))
capped_more words one group sum rest h g = omega (arith, h, g)

pub capped_end : (n rest w : ℕ) → n ≤ 65537 → rest ≡ 0 → cap_words (n + rest) ≡ cap_words w → n ≡ cap_words w
capped_end n rest w h e g = omega (arith, h, e, g)

-- some words, those of one part, and those of the rest
pub capped_next : (words one part sum rest : ℕ) → one ≡ part → sum ≡ cap_words (words + one) → cap_words (sum + rest) ≡ cap_words (words + (part + rest))
capped_next words one part sum rest h g = omega (arith, h, g)
