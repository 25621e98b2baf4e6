-- What is reported of a whole is later than a violation if what is reported of its parts is: one
-- lemma for each word by which the rules join their judgements.
use Rattle.std.proofs.Common.{Bool, [], arith, false, refl, true, ℕ, ◌++◌, ◌≡◌, ◌∷◌}
use Rattle.std.specs.Prelude.{nat_lt}
use Rattle.std.proofs.lemmas.Bool.Decides.{nat_tests}
use Rattle.std.proofs.lemmas.Bool.{and_from, and_parts}
use Rattle.cp_model.specs.declared.rules.Rule.{Rule}
use Rattle.cp_model.specs.declared.rules.Violation.{Violation}
use Rattle.cp_model.specs.RulesJudged.{Broken, Judged, Sound, Violations, also, both, guard, then_judge, unless, violation}
use Rattle.cp_rules_cutoff.specs.Later.{is_later, judged_later, violations_later}

module _ (w : Violation) where
  pub later_append : (vs us : Violations) → violations_later w vs ≡ true → violations_later w us ≡ true → violations_later w (vs ++ us) ≡ true
  later_append [] us h g = g
  later_append (v ∷ vs) us h g =
      let parts = and_parts (is_later w v) (violations_later w vs) h in
      and_from (is_later w v) (violations_later w (vs ++ us)) parts.0 (later_append vs us parts.1 g)

  pub later_at : (rule : Rule) (at : ℕ) → nat_lt w.at at ≡ true → is_later w (violation rule at) ≡ true
  later_at rule at h = grind (arith, nat_tests, h)

  -- of `breaks` too
  pub breaks_later : (rule : Rule) (at : ℕ) → nat_lt w.at at ≡ true → violations_later w (violation rule at ∷ []) ≡ true
  breaks_later rule at h = and_from (is_later w (violation rule at)) true (later_at rule at h) refl

  pub unless_later : (b : Bool) (rule : Rule) (at : ℕ) → nat_lt w.at at ≡ true → violations_later w (unless b rule at) ≡ true
  unless_later true rule at h = refl
  unless_later false rule at h = breaks_later rule at h

  module _ {A : Type 0} where
    pub guard_later : (b : Bool) (rule : Rule) (at : ℕ) (x : A) → nat_lt w.at at ≡ true → judged_later w (guard b rule at x) ≡ true
    guard_later true rule at x h = refl
    guard_later false rule at x h = breaks_later rule at h

    pub also_later : (vs : Violations) (j : Judged A) → violations_later w vs ≡ true → judged_later w j ≡ true → judged_later w (also vs j) ≡ true
    also_later [] j h g = g
    also_later (v ∷ vs) (Sound x) h g = later_append (v ∷ vs) [] h refl
    also_later (v ∷ vs) (Broken u us) h g = later_append (v ∷ vs) (u ∷ us) h g

  pub then_later : {A B : Type 0} (j : Judged A) (k : A → Judged B)
      → judged_later w j ≡ true → ((x : A) → judged_later w (k x) ≡ true) → judged_later w (then_judge j k) ≡ true
  then_later (Sound x) k h g = g x
  then_later (Broken v vs) k h g = h

  pub both_later : {A B C : Type 0} (a : Judged A) (b : Judged B) (k : A → B → Judged C)
      → judged_later w a ≡ true → judged_later w b ≡ true → ((x : A) (y : B) → judged_later w (k x y) ≡ true) → judged_later w (both a b k) ≡ true
  both_later (Sound x) b k h g f = then_later b (k x) g (f x)
  both_later (Broken v vs) (Sound y) k h g f = later_append (v ∷ vs) [] h refl
  both_later (Broken v vs) (Broken u us) k h g f = later_append (v ∷ vs) (u ∷ us) h g
