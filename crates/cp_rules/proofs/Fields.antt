-- Fields: their names, and their words.
use Rattle.std.proofs.Common.{◌≡◌, ◌+◌, ◌∷◌, ◌++◌, ℕ, zero, suc, [], Option, None, Some, drop, slice_get, refl, ap, arith}
use Rattle.cp_model.specs.declared.rules.Violation.{Violation}
use Rattle.cp_model.specs.RulesEnvironment.{Environment, Members}
use Rattle.cp_model.specs.RulesJudged.{Violations}
use Rattle.cp_rules.specs.Records.{or_first, words_if, words_of_members}

-- ---- fields of one type

pub or_first_more : (o : Option Violation) (vs ws : Violations) → or_first (or_first o vs) ws ≡ or_first o (vs ++ ws)
or_first_more None [] ws = refl
or_first_more None (v ∷ vs) ws = refl
or_first_more (Some v) vs ws = refl

pub or_nothing : (o : Option Violation) → or_first o [] ≡ o
or_nothing None = refl
or_nothing (Some v) = refl

-- ---- words

pub words_step : (env : Environment) (ms : Members) (k j : ℕ) → k + 1 ≡ j
    → words_of_members env (drop k ms) ≡ words_if env (slice_get ms k) + words_of_members env (drop j ms)
words_step env [] zero zero next = refl
words_step env [] zero (suc j) next = refl
words_step env [] (suc k) zero next = refl
words_step env [] (suc k) (suc j) next = refl
words_step env (m ∷ ms) zero zero next = absurd (omega (arith, next))
words_step env (m ∷ ms) zero (suc j) next =
    let same : 0 ≡ j = omega (arith, next) in ap (λ i. words_if env (Some m) + words_of_members env (drop i ms)) same
words_step env (m ∷ ms) (suc k) zero next = absurd (omega (arith, next))
words_step env (m ∷ ms) (suc k) (suc j) next = words_step env ms k j (omega (arith, next))
