-- The violations of the whole are those of its parts.
use Rattle.std.proofs.Common.{Bool, ◌&&◌, ◌≡◌, [], ◌∷◌, ◌++◌, Option, Some, None, Result, Ok, Err, refl, ap, sym, ◌∙◌, subst}
use Rattle.cp_model.specs.declared.rules.Violation.{Violation}
use Rattle.cp_model.specs.RulesJudged.{Judged, Sound, Broken, Violations, violations_of, earlier, least, then_judge, both, also}
use Rattle.cp_model.proofs.Options.{same_some}
use Rattle.cp_rules_body.specs.Reports.{Reports, ReportsFirst, ReportsOf, answer_if}

pub least_append : (t : Option Violation) (vs ws : Violations) → least t (vs ++ ws) ≡ least (least t vs) ws
least_append t [] ws = refl
least_append t (v ∷ vs) ws = least_append (earlier t v) vs ws

ok_injective : {A E : Type 0} {x y : A} → ◌≡◌ {A = Result A E} (Ok x) (Ok y) → x ≡ y
ok_injective {A} {E} {x} {y} h = ap or_x h
  where
    or_x : Result A E → A
    or_x (Ok z) = z
    or_x (Err e) = x

module _ {A B : Type 0} (k : A → Judged B) (t0 t1 : Option Violation) where
  pub then_some : (j : Judged A) (t2 : Option Violation) (x : A) (r : Option B) → Reports t0 t1 (Some x) j → Reports t1 t2 r (k x) → Reports t0 t2 r (then_judge j k)
  then_some (Sound y) t2 x r h g =
      let same : x ≡ y = same_some x y h.1 in
      subst (λ z. Reports t0 t2 r (k z)) same (subst (λ t. Reports t t2 r (k x)) h.0 g)
  then_some (Broken v vs) t2 x r h g = absurd (cc)

  pub then_none : (j : Judged A) → Reports t0 t1 None j → Reports t0 t1 None (then_judge j k)
  then_none (Sound y) h = absurd (cc)
  then_none (Broken v vs) h = (h.0, refl)

  -- the same, if the first violation is returned
  pub then_first : (j : Judged A) (t2 : Option Violation) (x : A) (r : Result B Violation)
      → ReportsFirst t0 t1 (Ok x) j → ReportsFirst t1 t2 r (k x) → ReportsFirst t0 t2 r (then_judge j k)
  then_first (Sound y) t2 x r h g =
      let same : x ≡ y = ok_injective h.1 in
      subst (λ z. ReportsFirst t0 t2 r (k z)) same (subst (λ t. ReportsFirst t t2 r (k x)) h.0 g)
  then_first (Broken v vs) t2 x r h g = absurd (let both : ◌≡◌ {A = Result A Violation} (Ok x) (Err v) = h.1 in cc)

module _ {A B C : Type 0} (k : A → B → Judged C) (t0 t1 t2 : Option Violation) where
  pub both_some : (ja : Judged A) (jb : Judged B) (t3 : Option Violation) (x : A) (y : B) (r : Option C) → Reports t0 t1 (Some x) ja → Reports t1 t2 (Some y) jb → Reports t2 t3 r (k x y) → Reports t0 t3 r (both ja jb k)
  both_some (Sound z) jb t3 x y r h g e =
      let same : x ≡ z = same_some x z h.1 in
      subst (λ w. Reports t0 t3 r (then_judge jb (k w))) same
      (then_some (k x) t0 t2 jb t3 y r (subst (λ t. Reports t t2 (Some y) jb) h.0 g) e)
  both_some (Broken v vs) jb t3 x y r h g e = absurd (cc)

  pub both_left : (ja : Judged A) (jb : Judged B) (rb : Option B) → Reports t0 t1 None ja → Reports t1 t2 rb jb → Reports t0 t2 None (both ja jb k)
  both_left (Sound z) jb rb h g = absurd (cc)
  both_left (Broken v vs) jb rb h g = (g.0 ∙ ap (λ t. least t (violations_of jb)) h.0 ∙ sym (least_append (earlier t0 v) vs (violations_of jb)), refl)

  pub both_right : (ja : Judged A) (jb : Judged B) (ra : Option A) → Reports t0 t1 ra ja → Reports t1 t2 None jb → Reports t0 t2 None (both ja jb k)
  both_right (Sound z) jb ra h g = then_none (k z) t0 t2 jb (subst (λ t. Reports t t2 None jb) h.0 g)
  both_right (Broken v vs) jb ra h g = (g.0 ∙ ap (λ t. least t (violations_of jb)) h.0 ∙ sym (least_append (earlier t0 v) vs (violations_of jb)), refl)

-- what is found whatever is broken inside, and then the rest
pub also_reported : {A : Type 0} (t0 t1 t2 : Option Violation) (sound : Bool) (vs : Violations) (m : Option A) (j : Judged A)
    → ReportsOf t0 t1 sound vs → Reports t1 t2 m j → Reports t0 t2 (answer_if sound m) (also vs j)
also_reported t0 t1 t2 sound [] m j h g =
    (g.0 ∙ ap (λ t. least t (violations_of j)) h.0, ap (λ b. answer_if b m) h.1 ∙ g.1)
also_reported t0 t1 t2 sound (v ∷ vs) m j h g =
    (g.0 ∙ ap (λ t. least t (violations_of j)) h.0 ∙ sym (least_append (earlier t0 v) vs (violations_of j)), ap (λ b. answer_if b m) h.1)

-- what is found whatever is broken inside, together with what is broken anyway
pub beside_reported : {A : Type 0} (t0 t1 t2 : Option Violation) (sound : Bool) (vs : Violations) (r : Option A) (v : Violation) (ws : Violations)
    → ReportsOf t0 t1 sound vs → Reports t1 t2 r (Broken v ws) → Reports t0 t2 r (also vs (Broken v ws))
beside_reported t0 t1 t2 sound [] r v ws h g = (g.0 ∙ ap (λ t. least t (v ∷ ws)) h.0, g.1)
beside_reported t0 t1 t2 sound (u ∷ us) r v ws h g = (g.0 ∙ ap (λ t. least t (v ∷ ws)) h.0 ∙ sym (least_append (earlier t0 u) us (v ∷ ws)), g.1)

-- one list of violations after another
pub append_reported : (t0 t1 t2 : Option Violation) (a b : Bool) (vs ws : Violations) → ReportsOf t0 t1 a vs → ReportsOf t1 t2 b ws → ReportsOf t0 t2 (a && b) (vs ++ ws)
append_reported t0 t1 t2 a b [] ws h g = (g.0 ∙ ap (λ t. least t ws) h.0, ap (λ x. x && b) h.1 ∙ g.1)
append_reported t0 t1 t2 a b (v ∷ vs) ws h g = (g.0 ∙ ap (λ t. least t ws) h.0 ∙ sym (least_append (earlier t0 v) vs ws), ap (λ x. x && b) h.1)

-- one part after another
pub more_reported : (t0 t1 t2 : Option Violation) (vs ws : Violations) → t1 ≡ least t0 vs → t2 ≡ least t1 ws → t2 ≡ least t0 (vs ++ ws)
more_reported t0 t1 t2 vs ws h g = g ∙ ap (λ t. least t ws) h ∙ sym (least_append t0 vs ws)

-- what is reported in the end for a part and for the rest
pub rest_reported : (t0 t1 : Option Violation) (vs ws all : Violations) → t1 ≡ least t0 vs → all ≡ vs ++ ws → least t1 ws ≡ least t0 all
rest_reported t0 t1 vs ws all h e = ap (λ t. least t ws) h ∙ sym (least_append t0 vs ws) ∙ ap (least t0) (sym e)

-- one part after another makes the whole
pub then_reported : (t0 t1 t2 : Option Violation) (vs ws all : Violations) → t1 ≡ least t0 vs → t2 ≡ least t1 ws → all ≡ vs ++ ws → t2 ≡ least t0 all
then_reported t0 t1 t2 vs ws all h g e = more_reported t0 t1 t2 vs ws h g ∙ ap (least t0) (sym e)
