-- The judgement of the whole follows from the judgements of its parts.
use Rattle.std.proofs.Common.{◌≡◌, ◌∷◌, ◌++◌, ◌||◌, ℕ, Bool, true, false, List, [], Option, Result, Err, not, refl, ap, subst, sym, ◌∙◌, append_assoc, append-nil}
use Rattle.cp_model.specs.Syntax as s
use Rattle.cp_model.specs.declared.rules.Position.{Position}
use Rattle.cp_model.specs.declared.rules.Rule.TheVariants.{C2, C8}
use Rattle.cp_model.specs.declared.rules.Violation.{Violation}
use Rattle.cp_model.specs.RulesJudged.{Broken, Judged, Sound, Violations, also, both, least, guard, then_judge, unless, violations_of}
use Rattle.cp_model.specs.RulesEnvironment.{Environment, is_simple}
use Rattle.cp_model.specs.RulesTypes as ty
use Rattle.cp_rules_body.proofs.Reports.{least_append}
use Rattle.cp_rules.specs.Checking.{Judges, State, first_of, reporting}
use Rattle.cp_rules.specs.Outer as o
use Rattle.cp_rules.specs.Outer.{Known, Outer, ReportsOuter, around, around_both}
use Rattle.cp_rules.proofs.Earliest.{least_swap}

-- ---- two parts, and then what is outside them

module _ {A B C : Type 0} (k : A → B → Judged C) where
  pub both_first : (a : Judged A) (b : Judged B) → first_of (both a b k) ≡ (around_both (first_of a) (first_of b) k).of
  both_first (Sound x) (Sound y) = refl
  both_first (Sound x) (Broken w ws) = refl
  both_first (Broken v vs) (Sound y) = refl
  both_first (Broken v vs) (Broken w ws) = refl

  pub both_violations : (a : Judged A) (b : Judged B)
      → violations_of (both a b k) ≡ violations_of a ++ (violations_of b ++ (around_both (first_of a) (first_of b) k).violations)
  both_violations (Sound x) (Sound y) = refl
  both_violations (Sound x) (Broken w ws) = sym (append-nil (w ∷ ws))
  both_violations (Broken v vs) (Sound y) = refl
  both_violations (Broken v vs) (Broken w ws) = ap (λ us. v ∷ vs ++ us) (sym (append-nil (w ∷ ws)))

  pub both_judged : (s0 s1 s2 s3 : State) (ra : Result A Violation) (rb : Result B Violation) (r : Result C Violation) (a : Judged A) (b : Environment → Judged B)
      → Judges s0 s1 ra a → Judges s1 s2 rb (b s1.env) → ReportsOuter s2 s3 r (around_both ra rb k) → Judges s0 s3 r (both a (b s0.env) k)
  both_judged s0 s1 s2 s3 ra rb r a b first second outer =
      let inner : Judges (reporting s0 (violations_of a)) s2 rb (b s0.env) = subst (λ (z : State). Judges z s2 rb (b z.env)) first.0 second in
      let known : around_both ra rb k ≡ around_both (first_of a) (first_of (b s0.env)) k = λ i. around_both (first.1 i) (inner.1 i) k in
      let more : Violations = (around_both (first_of a) (first_of (b s0.env)) k).violations in (
        outer.0 ∙ ap (λ (z : State). reporting z (around_both ra rb k).violations) inner.0
            ∙ ap (λ (w : Outer C). reporting (reporting (reporting s0 (violations_of a)) (violations_of (b s0.env))) w.violations) known
            ∙ ap (λ t. let st : State = record { env = s0.env; diagnostics = t } in st)
            (sym (ap (least s0.diagnostics) (both_violations a (b s0.env))
            ∙ least_append s0.diagnostics (violations_of a) (violations_of (b s0.env) ++ more)
            ∙ least_append (least s0.diagnostics (violations_of a)) (violations_of (b s0.env)) more)),
        outer.1 ∙ ap (λ (w : Outer C). w.of) known ∙ sym (both_first a (b s0.env)),
      )

-- ---- around one part

-- these violations are reported if the part is broken
abbrev pub where_broken : {A : Type 0} → Violations → Judged A → Violations
where_broken ws (Sound x) = []
where_broken ws (Broken v vs) = ws

module _ {A B : Type 0} (ws : Violations) (k : A → Judged B) where
  abbrev whole : Judged A → Judged B
  whole j = also (where_broken ws j) (then_judge j k)

  pub around_first : (vs : Violations) → ws ≡ vs → (j : Judged A) → first_of (whole j) ≡ (around ws k (first_of j)).of
  around_first vs same (Sound x) = refl
  around_first [] same (Broken v us) =
      ap (λ xs. first_of (also xs (then_judge (Broken v us) k))) same ∙ sym (ap (λ xs. (around xs k (Err v)).of) same)
  around_first (w ∷ vs) same (Broken v us) =
      ap (λ xs. first_of (also xs (then_judge (Broken v us) k))) same ∙ sym (ap (λ xs. (around xs k (Err v)).of) same)

  pub around_reported : (t : Option Violation) (vs : Violations) → ws ≡ vs → (j : Judged A)
      → least t (violations_of (whole j)) ≡ least (least t (violations_of j)) (around ws k (first_of j)).violations
  around_reported t vs same (Sound x) = refl
  around_reported t [] same (Broken v us) =
      ap (λ xs. least t (violations_of (also xs (then_judge (Broken v us) k)))) same
      ∙ sym (ap (λ xs. least (least t (v ∷ us)) (around xs k (Err v)).violations) same)
  around_reported t (w ∷ vs) same (Broken v us) =
      ap (λ xs. least t (violations_of (also xs (then_judge (Broken v us) k)))) same
      ∙ least_append t (w ∷ vs) (v ∷ us) ∙ least_swap t (w ∷ vs) (v ∷ us)
      ∙ sym (ap (λ xs. least (least t (v ∷ us)) (around xs k (Err v)).violations) same)

-- ---- written types

not_not : (b : Bool) → not (not b) ≡ b
not_not true = refl
not_not false = refl

placed_is : (env : Environment) (p : Position) (t : s.TypeExpression) (j : Judged ℕ)
    → ty.judge_in_position env p t j ≡ also (where_broken (o.written_queues env p t) j) (then_judge j (ty.c6_c8_placed env p (ty.type_at t)))
placed_is env p (s.Array at is e) (Broken v vs) =
    ap (λ b. also (unless b C8 at) (Broken v vs)) (sym (not_not (ty.allows_queues p || not (ty.holds_queues env e))))
placed_is env p (s.Array at is e) (Sound x) = refl
placed_is env p (s.Record at gs) (Sound x) = refl
placed_is env p (s.Record at gs) (Broken v vs) = refl
placed_is env p (s.Named x) (Sound y) = refl
placed_is env p (s.Named x) (Broken v vs) = refl
placed_is env p (s.Subrange a b) (Sound x) = refl
placed_is env p (s.Subrange a b) (Broken v vs) = refl

pub placed_first : (env : Environment) (p : Position) (t : s.TypeExpression) (j : Judged ℕ) → first_of (ty.judge_in_position env p t j) ≡ (o.judge_in_position env p t (first_of j)).of
placed_first env p t j =
    ap first_of (placed_is env p t j) ∙ around_first (o.written_queues env p t) (ty.c6_c8_placed env p (ty.type_at t)) (o.written_queues env p t) refl j

pub placed_reported : (u : Option Violation) (env : Environment) (p : Position) (t : s.TypeExpression) (j : Judged ℕ)
    → least u (violations_of (ty.judge_in_position env p t j)) ≡ least (least u (violations_of j)) (o.judge_in_position env p t (first_of j)).violations
placed_reported u env p t j =
    ap (λ i. least u (violations_of i)) (placed_is env p t j)
    ∙ around_reported (o.written_queues env p t) (ty.c6_c8_placed env p (ty.type_at t)) u (o.written_queues env p t) refl j

-- an index type, as the definitions judge it
abbrev pub index_of : Environment → s.TypeExpression → Judged ℕ → Judged ℕ
index_of env t j = also (ty.c2_written_index t j) (ty.c2_index_type env (ty.type_at t) j)

index_is : (env : Environment) (t : s.TypeExpression) (j : Judged ℕ)
    → index_of env t j ≡ also (where_broken (o.written_index t) j) (then_judge j (λ n. guard (is_simple env n) C2 (ty.type_at t) n))
index_is env (s.Array at is e) (Sound x) = refl
index_is env (s.Array at is e) (Broken v vs) = refl
index_is env (s.Record at gs) (Sound x) = refl
index_is env (s.Record at gs) (Broken v vs) = refl
index_is env (s.Named x) (Sound y) = refl
index_is env (s.Named x) (Broken v vs) = refl
index_is env (s.Subrange a b) (Sound x) = refl
index_is env (s.Subrange a b) (Broken v vs) = refl

pub index_first : (env : Environment) (t : s.TypeExpression) (j : Judged ℕ) → first_of (index_of env t j) ≡ (o.index_type env t (first_of j)).of
index_first env t j =
    ap first_of (index_is env t j)
    ∙ around_first (o.written_index t) (λ n. guard (is_simple env n) C2 (ty.type_at t) n) (o.written_index t) refl j

pub index_reported : (u : Option Violation) (env : Environment) (t : s.TypeExpression) (j : Judged ℕ)
    → least u (violations_of (index_of env t j)) ≡ least (least u (violations_of j)) (o.index_type env t (first_of j)).violations
index_reported u env t j =
    ap (λ i. least u (violations_of i)) (index_is env t j)
    ∙ around_reported (o.written_index t) (λ n. guard (is_simple env n) C2 (ty.type_at t) n) u (o.written_index t) refl j

-- ---- arrays

pub arrays_last : (env : Environment) (at : ℕ) (is : List (Result ℕ Violation)) (i e : Result ℕ Violation)
    → let one = o.array env at i e in
    let rest = o.arrays one.env at is one.of in
    o.arrays env at (is ++ i ∷ []) e ≡ record { env = rest.env; violations = one.violations ++ rest.violations; of = rest.of }
arrays_last env at [] i e =
    let one = o.array env at i e in
    ap (λ vs. let k : Known = record { env = one.env; violations = vs; of = one.of } in k) (sym (append-nil one.violations))
arrays_last env at (h ∷ hs) i e =
    let one = o.array env at i e in
    let rest = o.arrays one.env at hs one.of in
    let whole = o.array rest.env at h rest.of in
    ap (λ (inner : Known).
    let w = o.array inner.env at h inner.of in
    let k : Known = record { env = w.env; violations = inner.violations ++ w.violations; of = w.of } in k) (arrays_last env at hs i e)
    ∙ ap (λ vs. let k : Known = record { env = whole.env; violations = vs; of = whole.of } in k) (append_assoc one.violations rest.violations whole.violations)

-- the state in the end, and the type
abbrev pub ends : State → ℕ → List (Result ℕ Violation) → Result ℕ Violation → State × Result ℕ Violation
ends old at is e = let k = o.arrays old.env at is e in (record { env = k.env; diagnostics = least old.diagnostics k.violations }, k.of)

pub ends_last : (old new : State) (at : ℕ) (is : List (Result ℕ Violation)) (i e answer : Result ℕ Violation)
    → o.Knows old new answer (o.array old.env at i e) → ends new at is answer ≡ ends old at (is ++ i ∷ []) e
ends_last old new at is i e answer known =
    let one = o.array old.env at i e in
    let rest = o.arrays one.env at is one.of in
    (λ j. ends (known.0 j) at is (known.1 j))
    ∙ ap (λ t. (let st : State = record { env = rest.env; diagnostics = t } in st, rest.of)) (sym (least_append old.diagnostics one.violations rest.violations))
    ∙ sym (ap (λ (k : Known). (let st : State = record { env = k.env; diagnostics = least old.diagnostics k.violations } in st, k.of)) (arrays_last old.env at is i e))
