-- Definitions that are judged until something is reported.
use Rattle.std.proofs.Common.{◌≡◌, ◌<◌, ◌+◌, ◌++◌, ◌∷◌, ◌∙◌, [], ℕ, List, None, Option, Some, ap, append_assoc, drop, false, get_or, is_some, length, map, refl, sym}
use Rattle.std.proofs.lemmas.List.{at_drop_more}
use Rattle.cp_model.specs.Syntax as s
use Rattle.cp_model.specs.View as view
use Rattle.cp_model.specs.declared.rules.Position.TheVariants as position
use Rattle.cp_model.specs.declared.rules.Violation.{Violation}
use Rattle.cp_model.specs.declared.tree.Section.{Section}
use Rattle.cp_model.specs.declared.tree.Sort.TheVariants as sort
use Rattle.cp_model.specs.declared.tree.TypeDefinition.{TypeDefinition}
use Rattle.cp_model.specs.Rules.{c13_initial, define_as, define_section, first_violation}
use Rattle.cp_model.specs.RulesDeclarations.{Declared, routines, variables}
use Rattle.cp_model.specs.RulesEnvironment.{standard_environment}
use Rattle.cp_model.specs.RulesJudged.{Violations, least}
use Rattle.cp_model.specs.RulesNeeds.{need_statements}
use Rattle.cp_model.specs.RulesStatements.{statements}
use Rattle.cp_rules_body.proofs.Reports.{least_append}
use Rattle.cp_rules.specs.Checking.{State, after}
use Rattle.cp_rules.specs.Definitions.{define_sections, define_types}
use Rattle.cp_rules.specs.Endings.{rest_from, reported_with, whole}
use Rattle.cp_rules.proofs.Defining.{rest_defined}

pub no_violation : (first : Option Violation) → is_some first ≡ false → first ≡ None
no_violation None h = refl
no_violation (Some v) h = cc

-- ---- definitions of types

-- one more of the definitions was judged
pub type_reported : (old new : State) (all : List TypeDefinition) (i : ℕ) (d : TypeDefinition) → i < length all → d ≡ get_or all i d
    → new ≡ after old (define_as old.env d.name (view.defined_type d.defined))
    → after new (define_types new.env (map view.type_definition (drop (i + 1) all))) ≡ after old (define_types old.env (map view.type_definition (drop i all)))
type_reported old new all i d within is same =
    let one = view.type_definition d in
    let rest = map view.type_definition (drop (i + 1) all) in
    let step : map view.type_definition (drop i all) ≡ one ∷ rest =
    at_drop_more (map view.type_definition) all i d within ∙ ap (λ e. map view.type_definition (e ∷ drop (i + 1) all)) (sym is) in
    rest_defined (λ env e. define_as env e.name e.defined) old new one rest same ∙ sym (ap (λ es. after old (define_types old.env es)) step)

-- ---- sections

spread : (t : Option Violation) (a b c d e f : Violations) → least t (a ++ b ++ c ++ d ++ e ++ f) ≡ least (least t a) (b ++ c ++ d ++ e ++ f)
spread t a b c d e f =
    let grouped : a ++ b ++ c ++ d ++ e ++ f ≡ a ++ (b ++ c ++ d ++ e ++ f) = simp append_assoc in
    ap (least t) grouped ∙ least_append t a (b ++ c ++ d ++ e ++ f)

module _ (t : s.Tree) where
  -- the violations of one part are reported before those of the sections and of the initial process
  part_reported : (old : State) (one : Declared) (xs : List s.Section)
      → let defined = define_sections one.env xs in
      let own = variables defined.env position.InitialVariable t.variables in
      let all = routines own.env sort.Process t.routines in
      let body = statements all.env t.body.list in
      let words = 1 + own.words + need_statements all.env t.body.list in
      least old.diagnostics (one.violations ++ defined.violations ++ own.violations ++ all.violations ++ body ++ c13_initial t.body.at words body)
      ≡ reported_with (after old one) (rest_from t [] xs)
  part_reported old one xs =
      let defined = define_sections one.env xs in
      let own = variables defined.env position.InitialVariable t.variables in
      let all = routines own.env sort.Process t.routines in
      let body = statements all.env t.body.list in
      let words = 1 + own.words + need_statements all.env t.body.list in
      spread old.diagnostics one.violations defined.violations own.violations all.violations body (c13_initial t.body.at words body)

  -- one more of the sections was judged, as far as these definitions
  pub section_reported : (old new : State) (ds : List s.TypeDefinition) (all : List Section) (i : ℕ) (x : Section) → i < length all → x ≡ get_or all i x
      → after new (define_types new.env ds) ≡ after old (define_section old.env (view.section_of x))
      → reported_with new (rest_from t ds (map view.section_of (drop (i + 1) all))) ≡ reported_with old (rest_from t [] (map view.section_of (drop i all)))
  section_reported old new ds all i x within is same =
      let one = view.section_of x in
      let rest = map view.section_of (drop (i + 1) all) in
      let step : map view.section_of (drop i all) ≡ one ∷ rest =
      at_drop_more (map view.section_of) all i x within ∙ ap (λ e. map view.section_of (e ∷ drop (i + 1) all)) (sym is) in
      part_reported new (define_types new.env ds) rest ∙ ap (λ (z : State). reported_with z (rest_from t [] rest)) same
      ∙ sym (part_reported old (define_section old.env one) rest) ∙ sym (ap (λ xs. reported_with old (rest_from t [] xs)) step)

  pub whole_reported : (begun : State) → begun ≡ record { env = standard_environment; diagnostics = None } → reported_with begun (whole t) ≡ first_violation t
  whole_reported begun h = ap (λ (z : State). reported_with z (whole t)) h
