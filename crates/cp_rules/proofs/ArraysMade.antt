-- Subranges and arrays: what the code makes is what the definitions make.
use Rattle.std.proofs.Common.{◌≡◌, ◌∷◌, ◌++◌, ℕ, List, [], Option, Result, map, refl, ap, subst, sym, ◌∙◌, append_assoc, append-nil}
use Rattle.cp_model.specs.Syntax as s
use Rattle.cp_model.specs.declared.rules.Position.TheVariants as position
use Rattle.cp_model.specs.declared.rules.TypeRow.{TypeRow}
use Rattle.cp_model.specs.declared.rules.Violation.{Violation}
use Rattle.cp_model.specs.RulesJudged.{Broken, Judged, Sound, Violations, both, least, violations_of}
use Rattle.cp_model.specs.RulesEnvironment.{Environment}
use Rattle.cp_model.specs.RulesTypes as ty
use Rattle.cp_rules_body.proofs.Reports.{least_append}
use Rattle.cp_rules.specs.Checking.{Judges, Makes, State, first_of, reporting}
use Rattle.cp_rules.specs.Outer as o
use Rattle.cp_rules.specs.Outer.{Known, Knows, Outer, ReportsOuter, around_both}
use Rattle.cp_rules.specs.Types.{JudgesIndices, all_violations, with_indices}
use Rattle.cp_rules.proofs.Judging.{both_first, both_violations, placed_first, placed_reported}

-- ---- what is made of a row

pub row_made : (old s1 s2 : State) (j : Judged TypeRow) (row : Result TypeRow Violation) (answer : Result ℕ Violation)
    → Judges old s1 row j → Knows s1 s2 answer (o.make_known s1.env [] row) → Makes old s2 answer (ty.made_type old.env j)
row_made old s1 s2 j row answer judged known =
    go j (subst (λ r. Knows (reporting old (violations_of j)) s2 answer (o.make_known old.env [] r)) judged.1
    (subst (λ (z : State). Knows z s2 answer (o.make_known z.env [] row)) judged.0 known))
  where
    go : (i : Judged TypeRow) → Knows (reporting old (violations_of i)) s2 answer (o.make_known old.env [] (first_of i)) → Makes old s2 answer (ty.made_type old.env i)
    go (Sound r) k = k
    go (Broken v vs) k = k

-- ---- arrays

-- what the definitions make, in terms of the code
pub record Reported (m : ty.Made (Judged ℕ)) (vs : Violations) (k : Known) : Type 0 where
  pub env : k.env ≡ m.env
  pub of : k.of ≡ first_of m.of
  pub violations : violations_of m.of ≡ vs ++ k.violations

made_env : (env : Environment) (vs : Violations) (j : Judged TypeRow) → (o.make_known env vs (first_of j)).env ≡ (ty.made_type env j).env
made_env env vs (Sound r) = refl
made_env env vs (Broken v us) = refl

made_of : (env : Environment) (vs : Violations) (j : Judged TypeRow) → (o.make_known env vs (first_of j)).of ≡ first_of (ty.made_type env j).of
made_of env vs (Sound r) = refl
made_of env vs (Broken v us) = refl

made_violations : (env : Environment) (vs : Violations) (j : Judged TypeRow) → (o.make_known env vs (first_of j)).violations ≡ vs
made_violations env vs (Sound r) = refl
made_violations env vs (Broken v us) = refl

same_violations : (env : Environment) (j : Judged TypeRow) → violations_of (ty.made_type env j).of ≡ violations_of j
same_violations env (Sound r) = refl
same_violations env (Broken v us) = refl

-- one array around another
array_reported : (env : Environment) (at : ℕ) (i e : Judged ℕ)
    → Reported (ty.made_type env (both i e (λ a b. ty.c13_type at (ty.array_row env a b)))) (violations_of i ++ violations_of e) (o.array env at (first_of i) (first_of e))
array_reported env at i e =
    let k = λ (a b : ℕ). ty.c13_type at (ty.array_row env a b) in
    let j : Judged TypeRow = both i e k in
    let out : Outer TypeRow = around_both (first_of i) (first_of e) k in
    let same : o.array env at (first_of i) (first_of e) ≡ o.make_known env out.violations (first_of j) = ap (o.make_known env out.violations) (sym (both_first k i e)) in
    record {
      env = ap (λ (n : Known). n.env) same ∙ made_env env out.violations j;
      of = ap (λ (n : Known). n.of) same ∙ made_of env out.violations j;
      violations = same_violations env j ∙ both_violations k i e ∙ sym (append_assoc (violations_of i) (violations_of e) out.violations)
          ∙ ap (λ us. (violations_of i ++ violations_of e) ++ us) (sym (ap (λ (n : Known). n.violations) same ∙ made_violations env out.violations j));
    }

pub arrays_reported : (env : Environment) (at : ℕ) (is : List (Judged ℕ)) (e : Judged ℕ)
    → Reported (ty.arrays env at is e) (all_violations is ++ violations_of e) (o.arrays env at (map first_of is) (first_of e))
arrays_reported env at [] e = record { env = refl; of = refl; violations = sym (append-nil (violations_of e)) }
arrays_reported env at (i ∷ is) e =
    let inner : ty.Made (Judged ℕ) = ty.arrays env at is e in
    let kin : Known = o.arrays env at (map first_of is) (first_of e) in
    let rest : Reported inner (all_violations is ++ violations_of e) kin = arrays_reported env at is e in
    let one : Reported (ty.arrays env at (i ∷ is) e) (violations_of i ++ violations_of inner.of) (o.array inner.env at (first_of i) (first_of inner.of)) = array_reported inner.env at i inner.of in
    let whole : Known = o.array inner.env at (first_of i) (first_of inner.of) in
    let same : o.array kin.env at (first_of i) kin.of ≡ whole = λ h. o.array (rest.env h) at (first_of i) (rest.of h) in
    record {
      env = ap (λ (n : Known). n.env) same ∙ one.env;
      of = ap (λ (n : Known). n.of) same ∙ one.of;
      violations = one.violations
          ∙ ap (λ us. (violations_of i ++ us) ++ whole.violations) rest.violations
          ∙ regroup (violations_of i) (all_violations is) (violations_of e) kin.violations whole.violations
          ∙ ap (λ (n : Known). (all_violations (i ∷ is) ++ violations_of e) ++ (kin.violations ++ n.violations)) (sym same);
    }
  where
    regroup : (vs ws us ks ms : Violations) → (vs ++ ((ws ++ us) ++ ks)) ++ ms ≡ ((vs ++ ws) ++ us) ++ (ks ++ ms)
    regroup vs ws us ks ms =
        ap (λ xs. xs ++ ms) (sym (append_assoc vs (ws ++ us) ks)) ∙ append_assoc (vs ++ (ws ++ us)) ks ms
        ∙ ap (λ xs. xs ++ (ks ++ ms)) (sym (append_assoc vs ws us))

pub array_made : (old s1 s2 s3 s4 : State) (at : ℕ) (is : s.TypeExpressions) (e : s.TypeExpression) (answers : List (Result ℕ Violation))
    → (one two answer : Result ℕ Violation)
    → JudgesIndices old s1 answers (ty.index_types old.env is) → Makes s1 s2 one (ty.type_of s1.env e)
    → ReportsOuter s2 s3 two (o.judge_in_position s2.env position.Element e one) → Knows s3 s4 answer (o.arrays s3.env at answers two)
    → Makes old s4 answer (ty.type_of old.env (s.Array at is e))
array_made old s1 s2 s3 s4 at is e answers one two answer indices element outer known =
    let index : ty.Made (List (Judged ℕ)) = ty.index_types old.env is in
    let inner : ty.Made (Judged ℕ) = ty.type_of index.env e in
    let placed : Judged ℕ = ty.judge_in_position inner.env position.Element e inner.of in
    let t1 : Option Violation = least old.diagnostics (all_violations index.of) in
    let makes : Makes (with_indices old index) s2 one inner = subst (λ (z : State). Makes z s2 one (ty.type_of z.env e)) indices.0 element in
    let s2' : State = record { env = inner.env; diagnostics = least t1 (violations_of inner.of) } in
    let reports : ReportsOuter s2' s3 two (o.judge_in_position inner.env position.Element e (first_of inner.of)) =
    subst (λ r. ReportsOuter s2' s3 two (o.judge_in_position inner.env position.Element e r)) makes.1
    (subst (λ (z : State). ReportsOuter z s3 two (o.judge_in_position z.env position.Element e one)) makes.0 outer) in
    let s3' : State = record { env = inner.env; diagnostics = least t1 (violations_of placed) } in
    let told3 : s3 ≡ s3' =
    reports.0 ∙ ap (λ t. let st : State = record { env = inner.env; diagnostics = t } in st) (sym (placed_reported t1 inner.env position.Element e inner.of)) in
    let two_is : two ≡ first_of placed = reports.1 ∙ sym (placed_first inner.env position.Element e inner.of) in
    let k : Known = o.arrays inner.env at (map first_of index.of) (first_of placed) in
    let knows : Knows s3' s4 answer k =
    subst (λ r. Knows s3' s4 answer (o.arrays inner.env at (map first_of index.of) r)) two_is
    (subst (λ rs. Knows s3' s4 answer (o.arrays inner.env at rs two)) indices.1
    (subst (λ (z : State). Knows z s4 answer (o.arrays z.env at answers two)) told3 known)) in
    let whole : ty.Made (Judged ℕ) = ty.arrays inner.env at index.of placed in
    let diagnostics : Reported whole (all_violations index.of ++ violations_of placed) k = arrays_reported inner.env at index.of placed in
    let reported_is : least (least t1 (violations_of placed)) k.violations ≡ least old.diagnostics (violations_of whole.of) =
    ap (λ t. least t k.violations) (sym (least_append old.diagnostics (all_violations index.of) (violations_of placed)))
    ∙ sym (least_append old.diagnostics (all_violations index.of ++ violations_of placed) k.violations) ∙ ap (least old.diagnostics) (sym diagnostics.violations) in
    (knows.0 ∙ (λ h. record { env = diagnostics.env h; diagnostics = reported_is h }), knows.1 ∙ diagnostics.of)
