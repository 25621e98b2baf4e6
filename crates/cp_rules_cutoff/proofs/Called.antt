-- What is reported of a name that is called or used as a value is later.
use Rattle.std.proofs.Common.{Bool, None, Option, Some, refl, true, ℕ, ◌≡◌}
use Rattle.std.specs.Prelude.{nat_eq}
use Rattle.std.proofs.lemmas.Bool.{and_from}
use Rattle.cp_model.specs.Syntax as s
use Rattle.cp_model.specs.declared.rules.Entity.{Entity}
use Rattle.cp_model.specs.declared.rules.Entity.TheVariants as entity
use Rattle.cp_model.specs.declared.rules.Mode.{Mode}
use Rattle.cp_model.specs.declared.rules.Mode.TheVariants as mode
use Rattle.cp_model.specs.declared.rules.Returns.{Returns}
use Rattle.cp_model.specs.declared.rules.Returns.TheVariants as returns
use Rattle.cp_model.specs.declared.rules.RoutineRow.{RoutineRow}
use Rattle.cp_model.specs.declared.rules.Rule.{Rule}
use Rattle.cp_model.specs.declared.rules.Violation.{Violation}
use Rattle.cp_model.specs.declared.tree.Identifier.{Identifier}
use Rattle.cp_model.specs.RulesEnvironment.{Environment, c4_unfinished, integer}
use Rattle.cp_model.specs.RulesJudged.{Sound, also, breaks, then_judge}
use Rattle.cp_model.specs.RulesNames as n
use Rattle.cp_rules_cutoff.specs.After.{designator_after, name_after}
use Rattle.cp_rules_cutoff.specs.Later.{entity_later, environment_later, judged_later, returns_later}
use Rattle.cp_rules_cutoff.proofs.Combinators.{also_later, breaks_later, guard_later, then_later, unless_later}
use Rattle.cp_rules_cutoff.proofs.Found.{always_later, routine_later, standard_later, unfinished_later}
use Rattle.cp_rules_cutoff.proofs.Places.{first_after, last_after}

-- ---- Routines

module _ (w : Violation) where
  gives_later : (rule : Rule) (x : Identifier) (fits : Bool) (r : Returns) → name_after w.at x ≡ true → returns_later w r ≡ true
      → judged_later w (n.function_gives rule x fits r) ≡ true
  gives_later rule x fits returns.Nothing h g = breaks_later w _ x.at h
  gives_later rule x fits (returns.Value t) h g = search guard_later
  gives_later rule x fits (returns.Broken v) h g = search (also_later, unless_later, and_from)

  called_later : (rule : Rule) (x : Identifier) (fits : Bool) (c : Option n.Callee) → name_after w.at x ≡ true
      → judged_later w (n.standard_called rule x fits c) ≡ true
  called_later rule x fits None h = breaks_later w _ x.at h
  called_later rule x fits (Some c) h = search guard_later

module _ (w : Violation) (env : Environment) where
  function_called_later : (rule : Rule) (x : Identifier) (k : ℕ) (r : RoutineRow) → name_after w.at x ≡ true → returns_later w r.returns ≡ true
      → judged_later w (n.function_called env rule x k r) ≡ true
  function_called_later rule x k r h g =
      then_later w (n.function_gives rule x (nat_eq r.count k) r.returns) (n.routine_callee r env)
      (gives_later w rule x (nat_eq r.count k) r.returns h g) (λ y. refl)

  procedure_called_later : (x : Identifier) (k : ℕ) (r : RoutineRow) → name_after w.at x ≡ true → judged_later w (n.procedure_called env x k r) ≡ true
  procedure_called_later x k r h = search guard_later

  -- a name of another sort
  other_later : (rule : Rule) (x : Identifier) (e : Entity) → name_after w.at x ≡ true
      → judged_later w (also (c4_unfinished x e) (breaks {A = n.Callee} rule x.at)) ≡ true
  other_later rule x e h = also_later w (c4_unfinished x e) (breaks {A = n.Callee} rule x.at) (unfinished_later w x e h) (breaks_later w rule x.at h)

ruleset of_calls = (
  also_later,
  unless_later,
  breaks_later,
  function_called_later,
  procedure_called_later,
  called_later,
  routine_later,
  standard_later,
  other_later,
  last_after,
)

module _ (w : Violation) (env : Environment) (known : environment_later w env ≡ true) where
  pub function_later : (m : Mode) (d : s.Designator) (k : ℕ) (e : Entity) → designator_after w.at d ≡ true → entity_later w e ≡ true
      → judged_later w (n.function_of env m d k e) ≡ true
  function_later m d k (entity.Routine r) h g = search of_calls
  function_later m d k (entity.Entry r) h g = search of_calls
  function_later m d k (entity.UnfinishedRoutine r) h g = search of_calls
  function_later m d k (entity.Standard f) h g = search of_calls
  function_later m d k (entity.Constant base i) h g = search of_calls
  function_later m d k (entity.Type t) h g = search of_calls
  function_later m d k (entity.Variable t a) h g = search of_calls
  function_later m d k entity.UnfinishedConstant h g = search of_calls
  function_later m d k entity.UnfinishedType h g = search of_calls
  function_later m d k entity.Hidden h g = search of_calls
  function_later m d k (entity.Broken v) h g = search of_calls

  pub procedure_later : (d : s.Designator) (k : ℕ) (e : Entity) → designator_after w.at d ≡ true → entity_later w e ≡ true
      → judged_later w (n.procedure_of env d k e) ≡ true
  procedure_later d k (entity.Routine r) h g = search of_calls
  procedure_later d k (entity.Entry r) h g = search of_calls
  procedure_later d k (entity.UnfinishedRoutine r) h g = search of_calls
  procedure_later d k (entity.Standard f) h g = search of_calls
  procedure_later d k (entity.Constant base i) h g = search of_calls
  procedure_later d k (entity.Type t) h g = search of_calls
  procedure_later d k (entity.Variable t a) h g = search of_calls
  procedure_later d k entity.UnfinishedConstant h g = search of_calls
  procedure_later d k entity.UnfinishedType h g = search of_calls
  procedure_later d k entity.Hidden h g = search of_calls
  procedure_later d k (entity.Broken v) h g = search of_calls

  -- ---- Values

  alone_later : (m : Mode) (d : s.Designator) (e : Entity) → designator_after w.at d ≡ true → entity_later w e ≡ true
      → judged_later w (n.function_alone env m d e) ≡ true
  alone_later mode.Variable d e h g = search (also_later, always_later, breaks_later, first_after)
  alone_later mode.Value d e h g = then_later w (n.function_of env mode.Value d 0 e) _ (function_later mode.Value d 0 e h g) (λ c. refl)
  alone_later mode.FirstOperand d e h g =
      then_later w (n.function_of env mode.FirstOperand d 0 e) _ (function_later mode.FirstOperand d 0 e h g) (λ c. refl)
  alone_later mode.Queue d e h g = then_later w (n.function_of env mode.Queue d 0 e) _ (function_later mode.Queue d 0 e h g) (λ c. refl)

  result_later : (m : Mode) (d : s.Designator) (e : Entity) → designator_after w.at d ≡ true → entity_later w e ≡ true
      → judged_later w (then_judge (n.function_alone env m d e) (λ g. Sound (n.given_type env integer g))) ≡ true
  result_later m d e h g = then_later w (n.function_alone env m d e) (λ y. Sound (n.given_type env integer y)) (alone_later m d e h g) (λ y. refl)

  pub value_later : (m : Mode) (d : s.Designator) (e : Entity) → designator_after w.at d ≡ true → entity_later w e ≡ true
      → judged_later w (n.value_of env m d e) ≡ true
  value_later m d (entity.Constant base i) h g = refl
  value_later m d (entity.Variable t a) h g = search (guard_later, last_after)
  value_later m d (entity.Type t) h g = search (breaks_later, last_after)
  value_later m d entity.UnfinishedConstant h g = search (also_later, breaks_later, last_after)
  value_later m d entity.UnfinishedType h g = search (also_later, breaks_later, last_after)
  value_later m d (entity.Routine r) h g = result_later m d (entity.Routine r) h g
  value_later m d (entity.Entry r) h g = result_later m d (entity.Entry r) h g
  value_later m d (entity.UnfinishedRoutine r) h g = result_later m d (entity.UnfinishedRoutine r) h g
  value_later m d (entity.Standard f) h g = result_later m d (entity.Standard f) h g
  value_later m d entity.Hidden h g = result_later m d entity.Hidden h g
  value_later m d (entity.Broken v) h g = result_later m d (entity.Broken v) h g
