-- What is reported of routines that are later is later, and so is the environment with them.
use Rattle.std.proofs.Common.{◌≡◌, ◌∷◌, ◌++◌, ◌+◌, ℕ, List, None, Option, Some, [], length, refl, true}
use Rattle.std.specs.Prelude.{is_some, nat_lt, not}
use Rattle.std.proofs.lemmas.Bool.{and_from, and_parts}
use Rattle.cp_model.specs.Syntax as s
use Rattle.cp_model.specs.declared.tree.Identifier.{Identifier}
use Rattle.cp_model.specs.declared.tree.Sort.{Sort}
use Rattle.cp_model.specs.declared.rules.Entity.TheVariants as entity
use Rattle.cp_model.specs.declared.rules.Position.TheVariants as position
use Rattle.cp_model.specs.declared.rules.RoutineRow.{RoutineRow}
use Rattle.cp_model.specs.declared.rules.Rule.TheVariants.{C5, C8, C11}
use Rattle.cp_model.specs.declared.rules.Violation.{Violation}
use Rattle.cp_model.specs.RulesDeclarations as d
use Rattle.cp_model.specs.RulesEnvironment.{Environment, declare, is_process, is_simple, no_routine, row_of}
use Rattle.cp_model.specs.RulesJudged.{Broken, Judged, Sound}
use Rattle.cp_model.specs.RulesNeeds.{need_statements}
use Rattle.cp_model.specs.RulesTypes.{cap_words, named_type}
use Rattle.cp_rules_cutoff.specs.After.{all_after, name_after, optional_after, routine_after}
use Rattle.cp_rules_cutoff.specs.Later.{environment_later, judged_later, returns_later, routines_later, violations_later}
use Rattle.cp_rules_cutoff.proofs.Combinators.{also_later, guard_later, later_append, then_later, unless_later}
use Rattle.cp_rules_cutoff.proofs.Environments.{declare_later, declared_later, each_visible, known_again, known_names, known_routines}
use Rattle.cp_rules_cutoff.proofs.Headings.{heading_later}
use Rattle.cp_rules_cutoff.proofs.Statements.{statements_later}
use Rattle.cp_rules_cutoff.proofs.Types.{named_type_later}
use Rattle.cp_rules_cutoff.proofs.Variables.{DeclaredLater, variables_later}

module _ (w : Violation) where
  -- ---- results

  result_judged : (env : Environment) (at t : ℕ) → nat_lt w.at at ≡ true → judged_later w (d.c8_c11_result env at t) ≡ true
  result_judged env at t h = also_later w _ _ (unless_later w (not (row_of env t).has_queues) C8 at h) (guard_later w (is_simple env t) C11 at t h)

  result_reported : (env : Environment) (o : Option Identifier)
      → environment_later w env ≡ true → optional_after (name_after w.at) o ≡ true
      → violations_later w (d.result_violations (d.result_type env o)) ≡ true
  result_reported env None h after = refl
  result_reported env (Some x) h after =
      then_later w (named_type env x) (d.c8_c11_result env x.at) (named_type_later w env x h after) (λ t. result_judged env x.at t after)

  result_returned : (o : Option (Judged ℕ)) → violations_later w (d.result_violations o) ≡ true → returns_later w (d.returns_of o) ≡ true
  result_returned None h = refl
  result_returned (Some (Sound t)) h = refl
  result_returned (Some (Broken v vs)) h = (and_parts _ _ h).0

  -- ---- routines

  entry_reported : (y : Sort) (o : Option ℕ) → optional_after (nat_lt w.at) o ≡ true → violations_later w (d.c5_entry y o) ≡ true
  entry_reported y None h = refl
  entry_reported y (Some at) h = unless_later w (not (is_process y)) C5 at h

  rows_append : (rs : List RoutineRow) (r : RoutineRow)
      → routines_later w rs ≡ true → returns_later w r.returns ≡ true → routines_later w (rs ++ r ∷ []) ≡ true
  rows_append [] r h g = and_from _ true g refl
  rows_append (q ∷ qs) r h g =
      let parts = and_parts _ _ h in
      and_from _ _ parts.0 (rows_append qs r parts.1 g)

  routine_reported : (env : Environment) (y : Sort) (r : s.Routine)
      → environment_later w env ≡ true → routine_after w.at r ≡ true → DeclaredLater w (d.routine env y r)
  routine_reported env y r h after =
      let to_variables = and_parts _ _ after in
      let to_result = and_parts _ _ to_variables.0 in
      let to_parameters = and_parts _ _ to_result.0 in
      let to_name = and_parts _ _ to_parameters.0 in
      let entry = and_parts _ _ to_name.0 in
      let body = and_parts _ _ to_variables.1 in
      let start = declare r.name (entity.UnfinishedRoutine no_routine) env in
      let head = d.heading start None (is_some r.result_type) r.parameters in
      let headed = heading_later w start None (is_some r.result_type) r.parameters
      (declare_later w r.name (entity.UnfinishedRoutine no_routine) env refl h) to_name.1 in
      let answer = d.result_type head.env r.result_type in
      let answered = result_reported head.env r.result_type headed.known to_parameters.1 in
      let returned = result_returned answer answered in
      let row : RoutineRow = record {
        entry = is_some r.entry;
        first = length env.parameters;
        count = length head.rows;
        returns = d.returns_of answer;
        need = 0;
      } in
      let around : Environment = record env {
        parameters = env.parameters ++ head.rows;
        region = record { sort = y; part = d.part_of r.entry };
      } in
      let named = declare r.name (entity.UnfinishedRoutine row) around in
      let inside = d.declare_each named head.bound in
      let visible = each_visible w named head.bound (declare_later w r.name (entity.UnfinishedRoutine row) around returned h) headed.bound in
      let locals = d.variables inside.env position.RoutineVariable r.variables in
      let local = variables_later w inside.env position.RoutineVariable r.variables visible to_result.1 in
      let need = cap_words (1 + d.result_words answer + head.words + locals.words + need_statements locals.env r.body.list) in
      let after_it : Environment = record locals.env {
        names = env.names;
        routines = env.routines ++ record row { need = need } ∷ [];
        region = env.region;
      } in
      let rows = rows_append env.routines (record row { need = need }) (known_routines w env h) returned in
      let known = known_again w after_it (known_names w env h) rows in
      let first = later_append w _ _ (declared_later w env r.name entry.1) (entry_reported y r.entry entry.0) in
      let signature = later_append w _ _ (later_append w _ _ first headed.diagnostics) answered in (
        declare_later w r.name (entity.Routine (length env.routines)) after_it refl known,
        later_append w _ _ (later_append w _ _ signature local.1) (statements_later w locals.env local.0 r.body.list body.1),
      )

  pub routines_reported : (env : Environment) (y : Sort) (rs : List s.Routine)
      → environment_later w env ≡ true → all_after (routine_after w.at) rs ≡ true → DeclaredLater w (d.routines env y rs)
  routines_reported env y [] h after = (h, refl)
  routines_reported env y (r ∷ rs) h after =
      let parts = and_parts _ _ after in
      let one = routine_reported env y r h parts.0 in
      let rest = routines_reported (d.routine env y r).env y rs one.0 parts.1 in
      (rest.0, later_append w _ _ one.1 rest.1)
