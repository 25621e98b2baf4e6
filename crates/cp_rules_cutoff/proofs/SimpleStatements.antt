-- What is reported of an assignment, a condition, a label or a call is later if its places are.
use Rattle.std.proofs.Common.{Bool, List, None, Option, Some, [], false, refl, true, ℕ, ◌++◌, ◌≡◌, ◌∷◌}
use Rattle.std.specs.Prelude.{nat_lt}
use Rattle.std.proofs.lemmas.Bool.{and_from, and_parts}
use Rattle.cp_model.specs.Syntax as s
use Rattle.cp_model.specs.declared.rules.Entity.{Entity}
use Rattle.cp_model.specs.declared.rules.Entity.TheVariants as entity
use Rattle.cp_model.specs.declared.rules.Mode.TheVariants as mode
use Rattle.cp_model.specs.declared.rules.Returns.{Returns}
use Rattle.cp_model.specs.declared.rules.Returns.TheVariants as returns
use Rattle.cp_model.specs.declared.rules.Rule.TheVariants.{C2}
use Rattle.cp_model.specs.declared.rules.Violation.{Violation}
use Rattle.cp_model.specs.declared.tree.Constant.{Constant}
use Rattle.cp_model.specs.declared.tree.Identifier.{Identifier}
use Rattle.cp_model.specs.RulesEnvironment.{Environment, agree, base_of, boolean, c1_named, is_base, is_simple}
use Rattle.cp_model.specs.RulesExpressions.{arguments, designate, judge, result_of, wants_in}
use Rattle.cp_model.specs.RulesJudged.{Broken, Judged, Sound, also, both, then_judge, violations_of}
use Rattle.cp_model.specs.RulesNames.{Callee, c10_designator, c2_c5_c8_named, c2_indexed, count_of, procedure_of, value_of}
use Rattle.cp_model.specs.RulesStatements as t
use Rattle.cp_model.specs.RulesTypes.{constant, constant_at}
use Rattle.cp_rules_cutoff.specs.After.{all_after, constant_after, designator_after, expression_after, expressions_after, name_after, selectors_after}
use Rattle.cp_rules_cutoff.specs.Later.{environment_later, judged_later, returns_later, violations_later}
use Rattle.cp_rules_cutoff.proofs.Combinators.{also_later, both_later, breaks_later, guard_later, later_append, then_later, unless_later}
use Rattle.cp_rules_cutoff.proofs.Entities.{entity_judged, with_entity_later}
use Rattle.cp_rules_cutoff.proofs.Found.{constant_later, entity_named_later}
use Rattle.cp_rules_cutoff.proofs.NamesUsed.{designator_changed_later, indexed_later, names_used_later}
use Rattle.cp_rules_cutoff.proofs.Called.{procedure_later, value_later}
use Rattle.cp_rules_cutoff.proofs.Expressions.{arguments_later, designator_later, expression_later, value_compared_later}

-- ---- Assignments

own_later : (w : Violation) (x : Identifier) (ss : s.Selectors) (r : Returns) → name_after w.at x ≡ true → returns_later w r ≡ true
    → judged_later w (t.own_result x ss r) ≡ true
own_later w x ss returns.Nothing h g = search (also_later, breaks_later)
own_later w x s.NoSelectors (returns.Value u) h g = refl
own_later w x s.NoSelectors (returns.Broken v) h g = search and_from
own_later w x (s.MoreSelectors y ys) (returns.Value u) h g = search breaks_later
own_later w x (s.MoreSelectors y ys) (returns.Broken v) h g = search breaks_later

module _ (w : Violation) (env : Environment) (known : environment_later w env ≡ true) where
  other_side_later : (d : s.Designator) → designator_after w.at d ≡ true → judged_later w (t.other_left_side env d) ≡ true
  other_side_later d h =
      also_later w (c2_c5_c8_named env mode.Variable d ++ c10_designator env d) (then_judge (designate env d) (value_of env mode.Variable d))
      (later_append w (c2_c5_c8_named env mode.Variable d) (c10_designator env d) (names_used_later w env mode.Variable d h)
      (designator_changed_later w env d h))
      (with_entity_later w (designate env d) (value_of env mode.Variable d) (designator_later w env known d h)
      (λ y g. value_later w env known mode.Variable d y h g))

  left_by_later : (x : Identifier) (ss : s.Selectors) (j : Judged Entity) → designator_after w.at (s.Designate x ss) ≡ true → entity_judged w j ≡ true
      → judged_later w (t.left_by env x ss j) ≡ true
  left_by_later x ss (Sound (entity.UnfinishedRoutine r)) h g =
      own_later w x ss r.returns (and_parts (name_after w.at x) (selectors_after w.at ss) h).0 g
  left_by_later x ss (Sound (entity.Constant base n)) h g = other_side_later (s.Designate x ss) h
  left_by_later x ss (Sound (entity.Type u)) h g = other_side_later (s.Designate x ss) h
  left_by_later x ss (Sound (entity.Variable u a)) h g = other_side_later (s.Designate x ss) h
  left_by_later x ss (Sound (entity.Routine r)) h g = other_side_later (s.Designate x ss) h
  left_by_later x ss (Sound (entity.Entry r)) h g = other_side_later (s.Designate x ss) h
  left_by_later x ss (Sound (entity.Standard f)) h g = other_side_later (s.Designate x ss) h
  left_by_later x ss (Sound entity.UnfinishedConstant) h g = other_side_later (s.Designate x ss) h
  left_by_later x ss (Sound entity.UnfinishedType) h g = other_side_later (s.Designate x ss) h
  left_by_later x ss (Sound entity.Hidden) h g = other_side_later (s.Designate x ss) h
  left_by_later x ss (Sound (entity.Broken v)) h g = other_side_later (s.Designate x ss) h
  left_by_later x ss (Broken v vs) h g = other_side_later (s.Designate x ss) h

  left_later : (d : s.Designator) → designator_after w.at d ≡ true → judged_later w (t.left_side env d) ≡ true
  left_later (s.Designate x ss) h =
      left_by_later x ss (c1_named env x) h (entity_named_later w env known x (and_parts (name_after w.at x) (selectors_after w.at ss) h).0)

  unless_component_later : (j : Judged ℕ) (b : Bool) (o : Option ℕ) → judged_later w j ≡ true → judged_later w (t.judged_unless j b o) ≡ true
  unless_component_later j true (Some u) h = refl
  unless_component_later j true None h = h
  unless_component_later j false o h = h

  pub assignment_later : (d : s.Designator) (at : ℕ) (e : s.Expression) → designator_after w.at d ≡ true → nat_lt w.at at ≡ true
      → expression_after w.at e ≡ true → violations_later w (t.assignment env d at e) ≡ true
  assignment_later d at e h i g =
      both_later w (t.left_side env d) (t.right env (t.left_side env d) e) (t.c2_sides env at) (left_later d h)
      (unless_component_later (judge env mode.Value e) _ (t.lone_component env e) (expression_later w env known mode.Value e g))
      (λ a b. guard_later w (agree env a b) C2 at a i)

  -- ---- Conditions, selectors, bounds

  pub condition_later : (e : s.Expression) → expression_after w.at e ≡ true → judged_later w (t.c2_condition env e) ≡ true
  condition_later e h = value_compared_later w env known (λ u. is_base boolean (base_of env u)) C2 mode.Value e h

  pub selector_of_later : (e : s.Expression) → expression_after w.at e ≡ true → judged_later w (t.c2_selector env e) ≡ true
  selector_of_later e h = value_compared_later w env known (λ u. is_simple env u) C2 mode.Value e h

  pub bound_later : (j : Judged ℕ) (e : s.Expression) → expression_after w.at e ≡ true → judged_later w (t.bound env j e) ≡ true
  bound_later (Sound u) e h = value_compared_later w env known (λ v. agree env u v) C2 mode.Value e h
  bound_later (Broken v vs) e h = expression_later w env known mode.Value e h

  plain_after : (x : Identifier) → name_after w.at x ≡ true → designator_after w.at (t.plain x) ≡ true
  plain_after x h = and_from (name_after w.at x) true h refl

  pub for_variable_later : (x : Identifier) → name_after w.at x ≡ true → judged_later w (t.for_variable env x) ≡ true
  for_variable_later x h =
      also_later w (c10_designator env (t.plain x)) _ (designator_changed_later w env (t.plain x) (plain_after x h))
      (value_compared_later w env known (λ u. is_simple env u) C2 mode.Variable (s.Designated (t.plain x)) (plain_after x h))

  -- ---- Labels

  label_later : (base : Option ℕ) (seen : List t.Label) (at : ℕ) (c : t.Label) → nat_lt w.at at ≡ true
      → judged_later w (t.c2_c3_label base seen at c) ≡ true
  label_later base seen at c h = search (also_later, unless_later, guard_later)

  pub labels_later : (base : Option ℕ) (seen : List t.Label) (cs : List Constant) → all_after (constant_after w.at) cs ≡ true
      → violations_later w (t.labels env base seen cs).violations ≡ true
  labels_later base seen [] h = refl
  labels_later base seen (c ∷ cs) h =
      let parts = and_parts (constant_after w.at c) (all_after (constant_after w.at) cs) h in
      let one : Judged t.Label = constant env c in
      let diagnostics : Judged t.Label = then_judge one (t.c2_c3_label base seen (constant_at c)) in
      later_append w (violations_of diagnostics) (t.labels env base (t.more_seen seen one) cs).violations
      (then_later w one (t.c2_c3_label base seen (constant_at c)) (constant_later w env known c parts.0)
      (λ l. label_later base seen (constant_at c) l parts.0))
      (labels_later base (t.more_seen seen one) cs parts.1)

  -- ---- Calls

  pub call_later : (d : s.Designator) (es : s.Expressions) → designator_after w.at d ≡ true → expressions_after w.at es ≡ true
      → violations_later w (t.call_statement env d es) ≡ true
  call_later d es h g =
      let called = designate env d in
      let callee : Judged Callee = also (c2_indexed env mode.Value d) (then_judge called (procedure_of env d (count_of es))) in
      later_append w (c2_c5_c8_named env mode.Value d) (violations_of (both callee (arguments env (wants_in env called callee) es) (result_of env)))
      (names_used_later w env mode.Value d h)
      (both_later w callee (arguments env (wants_in env called callee) es) (result_of env)
      (also_later w (c2_indexed env mode.Value d) (then_judge called (procedure_of env d (count_of es))) (indexed_later w env mode.Value d h)
      (with_entity_later w called (procedure_of env d (count_of es)) (designator_later w env known d h)
      (λ y k. procedure_later w env known d (count_of es) y h k)))
      (arguments_later w env known (wants_in env called callee) es g) (λ x y. refl))
