-- What is left of a text reports nothing earlier than a violation before it.
use Rattle.std.proofs.Common.{◌≡◌, ◌∷◌, ◌+◌, Bool, Some, [], false, if◌then◌else◌, refl, true}
use Rattle.std.specs.Prelude.{not}
use Rattle.std.proofs.lemmas.Bool.{and_parts}
use Rattle.cp_model.specs.Syntax as s
use Rattle.cp_model.specs.declared.rules.Position.TheVariants as position
use Rattle.cp_model.specs.declared.rules.Violation.{Violation}
use Rattle.cp_model.specs.declared.tree.Sort.TheVariants as sort
use Rattle.cp_model.specs.Rules.{define_as, define_each, define_section}
use Rattle.cp_model.specs.RulesDeclarations.{routines, variables}
use Rattle.cp_model.specs.RulesEnvironment.{Environment}
use Rattle.cp_model.specs.RulesJudged.{Violations, is_before, least}
use Rattle.cp_model.specs.RulesNeeds.{need_statements}
use Rattle.cp_model.specs.RulesStatements.{statements}
use Rattle.cp_rules_cutoff.specs.Later.{environment_later, violations_later}
use Rattle.cp_rules_cutoff.specs.Laws.{RestReportsNothingEarlier}
use Rattle.cp_rules_cutoff.specs.Rest.{Rest, rest_after, rest_violations}
use Rattle.cp_rules_cutoff.proofs.Combinators.{later_append}
use Rattle.cp_rules_cutoff.proofs.Definitions.{initial_reported, sections_reported, types_reported}
use Rattle.cp_rules_cutoff.proofs.Routines.{routines_reported}
use Rattle.cp_rules_cutoff.proofs.Statements.{statements_later}
use Rattle.cp_rules_cutoff.proofs.Variables.{variables_later}

module _ (w : Violation) where
  stays_reported : (vs : Violations) → violations_later w vs ≡ true → least (Some w) vs ≡ Some w
  stays_reported [] h = refl
  stays_reported (v ∷ vs) h =
      let parts = and_parts _ _ h in
      go (is_before v w) parts.0 (stays_reported vs parts.1)
    where
      go : (b : Bool) → not b ≡ true → least (Some w) vs ≡ Some w → least (if b then Some v else Some w) vs ≡ Some w
      go false g rest = rest
      go true g rest = absurd (cc)

  rest_later : (env : Environment) (z : Rest)
      → environment_later w env ≡ true → rest_after w.at z ≡ true → violations_later w (rest_violations env z) ≡ true
  rest_later env z h after =
      let to_routines = and_parts _ _ after in
      let to_variables = and_parts _ _ to_routines.0 in
      let to_sections = and_parts _ _ to_variables.0 in
      let first = and_parts _ _ to_sections.0 in
      let last = and_parts _ _ to_routines.1 in
      let types = define_each (λ e (d : s.TypeDefinition). define_as e d.name d.defined) env z.definitions in
      let typed = types_reported w env z.definitions h first.0 in
      let defined = define_each define_section types.env z.sections in
      let each = sections_reported w types.env z.sections typed.0 first.1 in
      let own = variables defined.env position.InitialVariable z.variables in
      let owned = variables_later w defined.env position.InitialVariable z.variables each.0 to_sections.1 in
      let all = routines own.env sort.Process z.routines in
      let routed = routines_reported w own.env sort.Process z.routines owned.0 to_variables.1 in
      let body = statements all.env z.body.list in
      let words = 1 + own.words + need_statements all.env z.body.list in
      later_append w _ _
      (later_append w _ _
      (later_append w _ _ (later_append w _ _ (later_append w _ _ typed.1 each.1) owned.1) routed.1)
      (statements_later w all.env routed.0 z.body.list last.1))
      (initial_reported w z.body.at words body last.0)

pub rest_reported : RestReportsNothingEarlier
rest_reported w env z h after = stays_reported w (rest_violations env z) (rest_later w env z h after)
