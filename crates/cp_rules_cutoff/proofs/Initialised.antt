-- What is reported of `init` is later if its places are.
use Rattle.std.proofs.Common.{Bool, List, None, Option, Some, [], false, refl, true, ℕ, ◌++◌, ◌≡◌, ◌∷◌}
use Rattle.std.specs.Prelude.{if◌then◌else◌}
use Rattle.std.proofs.lemmas.Bool.{and_parts}
use Rattle.cp_model.specs.Syntax as s
use Rattle.cp_model.specs.declared.rules.Access.{Access}
use Rattle.cp_model.specs.declared.rules.Access.TheVariants as access
use Rattle.cp_model.specs.declared.rules.Entity.{Entity}
use Rattle.cp_model.specs.declared.rules.Entity.TheVariants as entity
use Rattle.cp_model.specs.declared.rules.Mode.TheVariants as mode
use Rattle.cp_model.specs.declared.rules.ParameterRow.{ParameterRow}
use Rattle.cp_model.specs.declared.rules.Rule.TheVariants.{C12}
use Rattle.cp_model.specs.declared.rules.SystemRow.{SystemRow}
use Rattle.cp_model.specs.declared.rules.Violation.{Violation}
use Rattle.cp_model.specs.declared.tree.Identifier.{Identifier}
use Rattle.cp_model.specs.RulesEnvironment.{Environment, agree, c1_named, c4_c9_named, integer, is_component, system_of, system_row}
use Rattle.cp_model.specs.RulesExpressions.{designate, judge}
use Rattle.cp_model.specs.RulesJudged.{Judged, Sound, also, breaks, guard, then_judge, violation, violations_of}
use Rattle.cp_model.specs.RulesNames.{c2_c5_c8_named, c8_named, count_of, first_token, last_name}
use Rattle.cp_model.specs.RulesStatements as t
use Rattle.cp_rules_cutoff.specs.After.{all_after, designator_after, expression_after, expressions_after, item_after, name_after}
use Rattle.cp_rules_cutoff.specs.Later.{environment_later, judged_later, violations_later}
use Rattle.cp_rules_cutoff.proofs.Combinators.{also_later, breaks_later, guard_later, later_append, then_later}
use Rattle.cp_rules_cutoff.proofs.Entities.{with_entity_later}
use Rattle.cp_rules_cutoff.proofs.Found.{always_later, named_later}
use Rattle.cp_rules_cutoff.proofs.NamesUsed.{names_used_later, queue_named_later}
use Rattle.cp_rules_cutoff.proofs.Expressions.{designator_later, expression_later, value_compared_later}
use Rattle.cp_rules_cutoff.proofs.Places.{last_after, token_after}

-- ---- Components that are initialised

module _ (w : Violation) (env : Environment) where
  initialised_later : (x : Identifier) (a : Access) (o : Option ℕ) → name_after w.at x ≡ true → judged_later w (t.system_initialised x a o) ≡ true
  initialised_later x access.Own (Some y) h = refl
  initialised_later x access.Own None h = search breaks_later
  initialised_later x access.ByReference o h = search breaks_later
  initialised_later x access.Passive o h = search breaks_later

  -- a name of another sort
  no_component_later : (x : Identifier) (e : Entity) → name_after w.at x ≡ true
      → judged_later w (also (c4_c9_named env x e) (breaks {A = ℕ} C12 x.at)) ≡ true
  no_component_later x e h = also_later w (c4_c9_named env x e) (breaks {A = ℕ} C12 x.at) (always_later w env x e h) (breaks_later w C12 x.at h)

  component_later : (x : Identifier) (e : Entity) → name_after w.at x ≡ true → judged_later w (t.c12_component env x e) ≡ true
  component_later x (entity.Variable u a) h = initialised_later x a (system_of env u) h
  component_later x (entity.Constant base n) h = no_component_later x (entity.Constant base n) h
  component_later x (entity.Type u) h = no_component_later x (entity.Type u) h
  component_later x (entity.Routine r) h = no_component_later x (entity.Routine r) h
  component_later x (entity.Entry r) h = no_component_later x (entity.Entry r) h
  component_later x (entity.Standard f) h = no_component_later x (entity.Standard f) h
  component_later x entity.UnfinishedConstant h = no_component_later x entity.UnfinishedConstant h
  component_later x entity.UnfinishedType h = no_component_later x entity.UnfinishedType h
  component_later x (entity.UnfinishedRoutine r) h = no_component_later x (entity.UnfinishedRoutine r) h
  component_later x entity.Hidden h = no_component_later x entity.Hidden h
  component_later x (entity.Broken v) h = no_component_later x (entity.Broken v) h

  passed_later : (u : ℕ) (x : Identifier) (e : Entity) → name_after w.at x ≡ true → judged_later w (t.c12_passed env u x e) ≡ true
  passed_later u x (entity.Variable y a) h = search guard_later
  passed_later u x (entity.Constant base n) h = no_component_later x (entity.Constant base n) h
  passed_later u x (entity.Type y) h = no_component_later x (entity.Type y) h
  passed_later u x (entity.Routine r) h = no_component_later x (entity.Routine r) h
  passed_later u x (entity.Entry r) h = no_component_later x (entity.Entry r) h
  passed_later u x (entity.Standard f) h = no_component_later x (entity.Standard f) h
  passed_later u x entity.UnfinishedConstant h = no_component_later x entity.UnfinishedConstant h
  passed_later u x entity.UnfinishedType h = no_component_later x entity.UnfinishedType h
  passed_later u x (entity.UnfinishedRoutine r) h = no_component_later x (entity.UnfinishedRoutine r) h
  passed_later u x entity.Hidden h = no_component_later x entity.Hidden h
  passed_later u x (entity.Broken v) h = no_component_later x (entity.Broken v) h

  surplus_name_later : (d : s.Designator) (e : Entity) → designator_after w.at d ≡ true → judged_later w (t.surplus_name env d e) ≡ true
  surplus_name_later d e h =
      also_later w (c4_c9_named env (last_name d) e) (Sound integer) (always_later w env (last_name d) e (last_after w.at d h)) refl

-- ---- Arguments

module _ (w : Violation) (env : Environment) (known : environment_later w env ≡ true) where
  surplus_later : (e : s.Expression) → expression_after w.at e ≡ true → judged_later w (t.surplus_argument env e) ≡ true
  surplus_later (s.Designated d) h =
      also_later w (c2_c5_c8_named env mode.Value d) (then_judge (designate env d) (t.surplus_name env d)) (names_used_later w env mode.Value d h)
      (with_entity_later w (designate env d) (t.surplus_name env d) (designator_later w env known d h) (λ y _. surplus_name_later w env d y h))
  surplus_later (s.Number at n) h = refl
  surplus_later (s.Character at n) h = refl
  surplus_later (s.Call d es) h = expression_later w env known mode.Value (s.Call d es) h
  surplus_later (s.Parenthesized at e) h = expression_later w env known mode.Value (s.Parenthesized at e) h
  surplus_later (s.Not at e) h = expression_later w env known mode.Value (s.Not at e) h
  surplus_later (s.Signed sign at e) h = expression_later w env known mode.Value (s.Signed sign at e) h
  surplus_later (s.Binary a o at b) h = expression_later w env known mode.Value (s.Binary a o at b) h

  -- an argument that isn't the name of a component
  no_name_later : (e : s.Expression) → expression_after w.at e ≡ true
      → judged_later w (also (violation C12 (first_token e) ∷ []) (t.surplus_argument env e)) ≡ true
  no_name_later e h =
      also_later w (violation C12 (first_token e) ∷ []) (t.surplus_argument env e) (breaks_later w C12 (first_token e) (token_after w.at e h))
      (surplus_later e h)

  component_argument_later : (u : ℕ) (e : s.Expression) → expression_after w.at e ≡ true → judged_later w (t.component_argument env u e) ≡ true
  component_argument_later u (s.Designated (s.Designate x s.NoSelectors)) h =
      let there = (and_parts (name_after w.at x) true h).0 in
      also_later w (c8_named env mode.Value x) (then_judge (c1_named env x) (t.c12_passed env u x)) (queue_named_later w env mode.Value x there)
      (then_later w (c1_named env x) (t.c12_passed env u x) (named_later w env known x there) (λ y. passed_later w env u x y there))
  component_argument_later u (s.Designated (s.Designate x (s.MoreSelectors y ys))) h =
      no_name_later (s.Designated (s.Designate x (s.MoreSelectors y ys))) h
  component_argument_later u (s.Number at n) h = no_name_later (s.Number at n) h
  component_argument_later u (s.Character at n) h = no_name_later (s.Character at n) h
  component_argument_later u (s.Call d es) h = no_name_later (s.Call d es) h
  component_argument_later u (s.Parenthesized at e) h = no_name_later (s.Parenthesized at e) h
  component_argument_later u (s.Not at e) h = no_name_later (s.Not at e) h
  component_argument_later u (s.Signed sign at e) h = no_name_later (s.Signed sign at e) h
  component_argument_later u (s.Binary a o at b) h = no_name_later (s.Binary a o at b) h

  init_argument_later : (o : Option ℕ) (e : s.Expression) → expression_after w.at e ≡ true → judged_later w (t.init_argument env o e) ≡ true
  init_argument_later None e h = surplus_later e h
  init_argument_later (Some u) e h = go (is_component env u)
    where
      compared : Judged ℕ
      compared = then_judge (judge env mode.Value e) (λ v. guard (agree env u v) C12 (first_token e) v)

      go : (b : Bool) → judged_later w (if b then t.component_argument env u e else compared) ≡ true
      go true = component_argument_later u e h
      go false = value_compared_later w env known (λ v. agree env u v) C12 mode.Value e h

  init_arguments_later : (ps : List ParameterRow) (es : s.Expressions) → expressions_after w.at es ≡ true
      → violations_later w (t.init_arguments env ps es) ≡ true
  init_arguments_later ps s.NoExpressions h = refl
  init_arguments_later [] (s.MoreExpressions e es) h =
      let parts = and_parts (expression_after w.at e) (expressions_after w.at es) h in
      later_append w (violations_of (t.surplus_argument env e)) (t.init_arguments env [] es) (surplus_later e parts.0)
      (init_arguments_later [] es parts.1)
  init_arguments_later (p ∷ ps) (s.MoreExpressions e es) h =
      let parts = and_parts (expression_after w.at e) (expressions_after w.at es) h in
      later_append w (violations_of (t.init_argument env p.of e)) (t.init_arguments env ps es) (init_argument_later p.of e parts.0)
      (init_arguments_later ps es parts.1)

  init_item_later : (i : s.InitItem) → item_after w.at i ≡ true → violations_later w (t.init_item env i) ≡ true
  init_item_later i h =
      let x = i.component in
      let es = i.arguments in
      let parts = and_parts (name_after w.at x) (expressions_after w.at es) h in
      let system : Judged ℕ = then_judge (c1_named env x) (t.c12_component env x) in
      let component : Judged SystemRow = then_judge system (t.c12_count env x (count_of es)) in
      let diagnostics : judged_later w system ≡ true =
      then_later w (c1_named env x) (t.c12_component env x) (named_later w env known x parts.0) (λ y. component_later w env x y parts.0) in
      later_append w (c8_named env mode.Value x ++ violations_of component) (t.init_arguments env (t.parameters_in env system) es)
      (later_append w (c8_named env mode.Value x) (violations_of component) (queue_named_later w env mode.Value x parts.0)
      (then_later w system (t.c12_count env x (count_of es)) diagnostics (λ y. guard_later w _ C12 x.at (system_row env y) parts.0)))
      (init_arguments_later (t.parameters_in env system) es parts.1)

  pub init_items_later : (is : List s.InitItem) → all_after (item_after w.at) is ≡ true → violations_later w (t.init_items env is) ≡ true
  init_items_later [] h = refl
  init_items_later (i ∷ is) h =
      let parts = and_parts (item_after w.at i) (all_after (item_after w.at) is) h in
      later_append w (t.init_item env i) (t.init_items env is) (init_item_later i parts.0) (init_items_later is parts.1)
