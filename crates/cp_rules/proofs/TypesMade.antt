-- Index types and fields, one after another, and the record that is made of them.
use Rattle.std.proofs.Common.{◌≡◌, ◌∷◌, ◌++◌, ℕ, List, [], Option, None, Some, Result, map, refl, ap, subst, sym, ◌∙◌, append_assoc}
use Rattle.cp_model.specs.Syntax as s
use Rattle.cp_model.specs.View.{fields_of}
use Rattle.cp_model.specs.declared.rules.Position.{Position}
use Rattle.cp_model.specs.declared.rules.Position.TheVariants as position
use Rattle.cp_model.specs.declared.rules.Violation.{Violation}
use Rattle.cp_model.specs.RulesJudged.{Broken, Judged, Sound, least, violations_of}
use Rattle.cp_model.specs.RulesEnvironment.{Environment, Members}
use Rattle.cp_model.specs.RulesTypes as ty
use Rattle.cp_rules_body.proofs.Reports.{least_append}
use Rattle.cp_rules.specs.Checking.{Makes, State, first_of, reporting}
use Rattle.cp_rules.specs.Outer as o
use Rattle.cp_rules.specs.Outer.{Known, Knows, ReportsOuter}
use Rattle.cp_rules.specs.Records as records
use Rattle.cp_rules.specs.Records.{broken_in, first_in, number_or_any, or_first, with_fields}
use Rattle.cp_rules.specs.Types.{with_groups, with_indices}
use Rattle.cp_rules.proofs.Earliest.{least_swap}
use Rattle.cp_rules.proofs.Fields.{or_first_more}
use Rattle.cp_rules.proofs.FieldsMade.{GroupsReported, groups_reported, record_reported}
use Rattle.cp_rules.proofs.Judging.{index_first, index_of, index_reported, placed_first, placed_reported}

abbrev state_of : Environment → Option Violation → State
state_of e t = record { env = e; diagnostics = t }

-- ---- a type at its position

pub type_put : (s0 s1 s2 : State) (p : Position) (t : s.TypeExpression) (one two : Result ℕ Violation)
    → Makes s0 s1 one (ty.type_of s0.env t) → ReportsOuter s1 s2 two (o.judge_in_position s1.env p t one) → Makes s0 s2 two (ty.type_placed s0.env p t)
type_put s0 s1 s2 p t one two makes reports =
    let made : ty.Made (Judged ℕ) = ty.type_of s0.env t in
    let inner : State = state_of made.env (least s0.diagnostics (violations_of made.of)) in
    let outer : ReportsOuter inner s2 two (o.judge_in_position made.env p t (first_of made.of)) =
    subst (λ r. ReportsOuter inner s2 two (o.judge_in_position made.env p t r)) makes.1
    (subst (λ (z : State). ReportsOuter z s2 two (o.judge_in_position z.env p t one)) makes.0 reports) in
    (outer.0 ∙ ap (state_of made.env) (sym (placed_reported s0.diagnostics made.env p t made.of)), outer.1 ∙ sym (placed_first made.env p t made.of))

-- ---- one index type, and then the rest

module _ (s0 s1 s2 : State) (t : s.TypeExpression) (ts : s.TypeExpressions) (one two : Result ℕ Violation)
    (makes : Makes s0 s1 one (ty.type_of s0.env t)) (reports : ReportsOuter s1 s2 two (o.index_type s1.env t one)) where
  abbrev made : ty.Made (Judged ℕ)
  made = ty.type_of s0.env t

  abbrev index : Judged ℕ
  index = index_of made.env t made.of

  reported_one : ReportsOuter (state_of made.env (least s0.diagnostics (violations_of made.of))) s2 two (o.index_type made.env t (first_of made.of))
  reported_one =
      subst (λ r. ReportsOuter (state_of made.env (least s0.diagnostics (violations_of made.of))) s2 two (o.index_type made.env t r)) makes.1
      (subst (λ (z : State). ReportsOuter z s2 two (o.index_type z.env t one)) makes.0 reports)

  indices_state : s2 ≡ state_of made.env (least s0.diagnostics (violations_of index))
  indices_state = reported_one.0 ∙ ap (state_of made.env) (sym (index_reported s0.diagnostics made.env t made.of))

  pub indices_made : with_indices s2 (ty.index_types s2.env ts) ≡ with_indices s0 (ty.index_types s0.env (s.MoreTypes t ts))
  indices_made =
      let rest = ty.index_types made.env ts in
      ap (λ (z : State). with_indices z (ty.index_types z.env ts)) indices_state
      ∙ ap (state_of rest.env) (sym (least_append s0.diagnostics (violations_of index) _))

  pub indices_answers : (answers : List (Result ℕ Violation))
      → (answers ++ two ∷ []) ++ map first_of (ty.index_types s2.env ts).of ≡ answers ++ map first_of (ty.index_types s0.env (s.MoreTypes t ts)).of
  indices_answers answers =
      append_assoc answers (two ∷ []) (map first_of (ty.index_types s2.env ts).of)
      ∙ (λ i. answers ++ ((reported_one.1 ∙ sym (index_first made.env t made.of)) i ∷ map first_of (ty.index_types (indices_state i).env ts).of))

-- ---- fields of one type

type_is : (j : Judged ℕ) → number_or_any (first_of j) ≡ records.type_or_any j
type_is (Sound t) = refl
type_is (Broken v vs) = refl

broken_is : (f : Option Violation) (j : Judged ℕ) → or_first f (broken_in (first_of j)) ≡ or_first f (violations_of j)
broken_is None (Sound t) = refl
broken_is (Some w) (Sound t) = refl
broken_is None (Broken v vs) = refl
broken_is (Some w) (Broken v vs) = refl

-- fields of one type were judged, after these fields and this first violation
pub record Added (s0 s3 : State) (g : s.Variables) (ms ns : Members) (f h : Option Violation) : Type 0 where
  pub made : s3 ≡ with_groups s0 (records.group s0.env ms g)
  pub members : ns ≡ (records.group s0.env ms g).members
  pub first : h ≡ or_first f (records.group s0.env ms g).violations

pub group_added : (s0 s1 s2 s3 : State) (g : s.Variables) (ms ns : Members) (f k h : Option Violation) (one two : Result ℕ Violation) (n : ℕ)
    → Makes s0 s1 one (ty.type_of s0.env g.of) → ReportsOuter s1 s2 two (o.judge_in_position s1.env position.Field g.of one)
    → n ≡ number_or_any two → s3 ≡ reporting s2 (with_fields ms n g.names).violations → ns ≡ (with_fields ms n g.names).members
    → k ≡ or_first f (with_fields ms n g.names).violations → h ≡ or_first k (broken_in two) → Added s0 s3 g ms ns f h
group_added s0 s1 s2 s3 g ms ns f k h one two n makes reports number diagnostics members first noted =
    let made : ty.Made (Judged ℕ) = ty.type_of s0.env g.of in
    let placed : Judged ℕ = ty.judge_in_position made.env position.Field g.of made.of in
    let put : Makes s0 s2 two (ty.type_placed s0.env position.Field g.of) = type_put s0 s1 s2 position.Field g.of one two makes reports in
    let told2 : s2 ≡ state_of made.env (least s0.diagnostics (violations_of placed)) = put.0 in
    let two_is : two ≡ first_of placed = put.1 in
    let n_is : n ≡ records.type_or_any placed = number ∙ ap number_or_any two_is ∙ type_is placed in
    let own : records.Fields = with_fields ms (records.type_or_any placed) g.names in
    let same : with_fields ms n g.names ≡ own = ap (λ m. with_fields ms m g.names) n_is in
    record {
      made = diagnostics ∙ (λ i. reporting (told2 i) (same i).violations)
          ∙ ap (state_of made.env) (least_swap s0.diagnostics (violations_of placed) own.violations ∙ sym (least_append s0.diagnostics own.violations (violations_of placed)));
      members = members ∙ ap (λ (w : records.Fields). w.members) same;
      first = noted ∙ (λ i. or_first ((first ∙ ap (λ (w : records.Fields). or_first f w.violations) same) i) (broken_in (two_is i)))
          ∙ broken_is (or_first f own.violations) placed ∙ or_first_more f own.violations (violations_of placed);
    }

-- ---- one group, and then the rest

module _ (s0 s1 : State) (g : s.Variables) (gs : List s.Variables) (ms ns : Members) (f h : Option Violation) (added : Added s0 s1 g ms ns f h) where
  abbrev group : records.Grouped
  group = records.group s0.env ms g

  abbrev groups : records.Grouped
  groups = records.groups group.env group.members gs

  same_rest : records.groups s1.env ns gs ≡ groups
  same_rest = λ i. records.groups (added.made i).env (added.members i) gs

  pub groups_made : with_groups s1 (records.groups s1.env ns gs) ≡ with_groups s0 (records.groups s0.env ms (g ∷ gs))
  groups_made =
      (λ i. with_groups (added.made i) (same_rest i)) ∙ ap (state_of groups.env) (sym (least_append s0.diagnostics group.violations groups.violations))

  pub groups_members : (records.groups s1.env ns gs).members ≡ (records.groups s0.env ms (g ∷ gs)).members
  groups_members = ap (λ (w : records.Grouped). w.members) same_rest

  pub groups_first : or_first h (records.groups s1.env ns gs).violations ≡ or_first f (records.groups s0.env ms (g ∷ gs)).violations
  groups_first =
      (λ i. or_first (added.first i) (same_rest i).violations) ∙ or_first_more f group.violations groups.violations

-- ---- the record

pub record_made : (old new s2 : State) (at : ℕ) (gs : List s.Variables) (ms : Members) (f : Option Violation) (answer : Result ℕ Violation)
    → let all = records.groups old.env [] gs in
    new ≡ with_groups old all → ms ≡ all.members → f ≡ or_first None all.violations
    → Knows new s2 answer (records.record_of new.env at ms f) → Makes old s2 answer (ty.type_of old.env (s.Record at (fields_of gs)))
record_made old new s2 at gs ms f answer made members first known =
    let all : records.Grouped = records.groups old.env [] gs in
    let fields : ty.Made (Judged ty.FieldList) = ty.fields_of old.env [] (fields_of gs) in
    let diagnostics : GroupsReported fields [] all = groups_reported old.env [] [] gs (λ y. refl) in
    let new_is : new ≡ state_of fields.env (least old.diagnostics (violations_of fields.of)) =
    made ∙ (λ i. state_of (diagnostics.env i) (least old.diagnostics (diagnostics.violations i))) in
    let first_is : f ≡ first_in (violations_of fields.of) = first ∙ ap first_in diagnostics.violations in
    let k : Known = records.record_of fields.env at all.members (first_in (violations_of fields.of)) in
    let knows : Knows (state_of fields.env (least old.diagnostics (violations_of fields.of))) s2 answer k =
    subst (λ o. Knows (state_of fields.env (least old.diagnostics (violations_of fields.of))) s2 answer (records.record_of fields.env at all.members o)) first_is
    (subst (λ ns. Knows (state_of fields.env (least old.diagnostics (violations_of fields.of))) s2 answer (records.record_of fields.env at ns f)) members
    (subst (λ (z : State). Knows z s2 answer (records.record_of z.env at ms f)) new_is known)) in
    let whole = record_reported fields.env at fields.of all.members diagnostics.members in (
      knows.0
          ∙ (λ i. state_of (whole.env i) ((sym (least_append old.diagnostics (violations_of fields.of) k.violations) ∙ ap (least old.diagnostics) (sym whole.violations)) i)),
      knows.1 ∙ whole.of,
    )
