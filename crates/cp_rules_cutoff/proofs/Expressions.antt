-- What is reported of an expression is later if its places are.
use Rattle.std.proofs.Common.{Bool, List, None, Option, Some, [], false, refl, true, ℕ, ◌≡◌, ◌∷◌}
use Rattle.std.specs.Prelude.{nat_eq, nat_lt, ◌&&◌}
use Rattle.std.proofs.lemmas.Bool.{and_parts}
use Rattle.cp_model.specs.Syntax as s
use Rattle.cp_model.specs.declared.rules.Entity.{Entity}
use Rattle.cp_model.specs.declared.rules.Mode.{Mode}
use Rattle.cp_model.specs.declared.rules.Mode.TheVariants as mode
use Rattle.cp_model.specs.declared.rules.Rule.{Rule}
use Rattle.cp_model.specs.declared.rules.Rule.TheVariants.{C2}
use Rattle.cp_model.specs.declared.rules.Violation.{Violation}
use Rattle.cp_model.specs.declared.rules.Want.{Want}
use Rattle.cp_model.specs.declared.rules.Want.TheVariants as want
use Rattle.cp_model.specs.RulesEnvironment.{Environment, base_of, boolean, c1_named, char, integer, is_base, is_simple, queue}
use Rattle.cp_model.specs.RulesExpressions as e
use Rattle.cp_model.specs.RulesJudged.{Judged, also, both, guard, then_judge}
use Rattle.cp_model.specs.RulesNames.{Callee, before_selectors, c10_variable, c2_array, c2_c5_c8_named, c2_index, c2_indexed, count_of, first_token, function_of, member_of, value_of}
use Rattle.cp_rules_cutoff.specs.After.{designator_after, expression_after, expressions_after, indices_after, name_after, selector_after, selectors_after}
use Rattle.cp_rules_cutoff.specs.Later.{environment_later, judged_later, violations_later}
use Rattle.cp_rules_cutoff.proofs.Combinators.{also_later, both_later, guard_later, then_later}
use Rattle.cp_rules_cutoff.proofs.Entities.{both_entity_later, entity_judged, entity_reported, then_entity_later, with_entity_later}
use Rattle.cp_rules_cutoff.proofs.Found.{entity_named_later}
use Rattle.cp_rules_cutoff.proofs.NamesUsed.{array_later, before_selectors_later, changed_later, index_later, indexed_later, member_later, names_used_later}
use Rattle.cp_rules_cutoff.proofs.Called.{function_later, value_later}
use Rattle.cp_rules_cutoff.proofs.Places.{token_after}

-- ---- An argument that has been judged

module _ (w : Violation) (env : Environment) where
  fits_later : (by_reference : Bool) (o : Option ℕ) (x : s.Expression) (t : ℕ) → expression_after w.at x ≡ true
      → judged_later w (e.fits_type env by_reference o x t) ≡ true
  fits_later b None x t h = refl
  fits_later true (Some u) x t h = search (guard_later, token_after)
  fits_later false (Some u) x t h = search (guard_later, token_after)

  by_reference_later : (by_reference : Bool) (x : s.Expression) → expression_after w.at x ≡ true
      → violations_later w (e.c10_by_reference env by_reference x) ≡ true
  by_reference_later true x h = changed_later w env x h
  by_reference_later false x h = refl

  -- compared with what is wanted, at the first token
  compared_later : (b : ℕ → Bool) (rule : Rule) (x : s.Expression) (j : Judged ℕ) → expression_after w.at x ≡ true → judged_later w j ≡ true
      → judged_later w (then_judge j (λ t. guard (b t) rule (first_token x) t)) ≡ true
  compared_later b rule x j h g =
      then_later w j (λ t. guard (b t) rule (first_token x) t) g (λ t. guard_later w (b t) rule (first_token x) t (token_after w.at x h))

  argument_later : (want : Want) (x : s.Expression) (j : Judged ℕ) → expression_after w.at x ≡ true → judged_later w j ≡ true
      → judged_later w (e.argument env want x j) ≡ true
  argument_later (want.Parameter p) x j h g =
      also_later w (e.c10_by_reference env p.by_reference x) (then_judge j (e.fits_type env p.by_reference p.of x))
      (by_reference_later p.by_reference x h)
      (then_later w j (e.fits_type env p.by_reference p.of x) g (λ t. fits_later p.by_reference p.of x t h))
  argument_later want.Simple x j h g = compared_later (λ t. is_simple env t) C2 x j h g
  argument_later want.Integer x j h g = compared_later (λ t. is_base integer (base_of env t)) C2 x j h g
  argument_later want.CharVariable x j h g =
      also_later w (c10_variable env x) _ (changed_later w env x h) (compared_later (λ t. is_base char (base_of env t)) C2 x j h g)
  argument_later want.QueueVariable x j h g = compared_later (λ t. nat_eq t queue) C2 x j h g

-- ---- Expressions

module _ (w : Violation) (env : Environment) (known : environment_later w env ≡ true) where
  mutual
    pub expression_later : (m : Mode) (x : s.Expression) → expression_after w.at x ≡ true → judged_later w (e.judge env m x) ≡ true
    expression_later m (s.Number at n) h = refl
    expression_later m (s.Character at n) h = refl
    expression_later m (s.Designated d) h =
        also_later w (c2_c5_c8_named env m d) (then_judge (e.designate env d) (value_of env m d)) (names_used_later w env m d h)
        (with_entity_later w (e.designate env d) (value_of env m d) (designator_later d h) (λ y g. value_later w env known m d y h g))
    expression_later m (s.Call d es) h =
        let parts = and_parts (designator_after w.at d) (expressions_after w.at es) h in
        let called = e.designate env d in
        let callee : Judged Callee = also (c2_indexed env m d) (then_judge called (function_of env m d (count_of es))) in
        also_later w (c2_c5_c8_named env (e.first_operand m) d) (both callee (e.arguments env (e.wants_in env called callee) es) (e.result_of env))
        (names_used_later w env (e.first_operand m) d parts.0)
        (both_later w callee (e.arguments env (e.wants_in env called callee) es) (e.result_of env)
        (also_later w (c2_indexed env m d) (then_judge called (function_of env m d (count_of es))) (indexed_later w env m d parts.0)
        (with_entity_later w called (function_of env m d (count_of es)) (designator_later d parts.0)
        (λ y g. function_later w env known m d (count_of es) y parts.0 g)))
        (arguments_later (e.wants_in env called callee) es parts.1) (λ x y. refl))
    expression_later m (s.Parenthesized at x) h = expression_later mode.Value x (and_parts (nat_lt w.at at) (expression_after w.at x) h).1
    expression_later m (s.Not at x) h =
        let parts = and_parts (nat_lt w.at at) (expression_after w.at x) h in
        then_later w (e.judge env mode.Value x) (e.c2_operand env boolean at) (expression_later mode.Value x parts.1)
        (λ t. guard_later w _ C2 at boolean parts.0)
    expression_later m (s.Signed sign at x) h =
        let parts = and_parts (nat_lt w.at at) (expression_after w.at x) h in
        then_later w (e.judge env mode.Value x) (e.c2_operand env integer at) (expression_later mode.Value x parts.1)
        (λ t. guard_later w _ C2 at integer parts.0)
    expression_later m (s.Binary x o at y) h =
        let parts = and_parts (expression_after w.at x && nat_lt w.at at) (expression_after w.at y) h in
        let first = and_parts (expression_after w.at x) (nat_lt w.at at) parts.0 in
        both_later w (e.judge env (e.first_operand m) x) (e.judge env mode.Value y) (e.c2_operands env o at)
        (expression_later (e.first_operand m) x first.0) (expression_later mode.Value y parts.1)
        (λ t u. guard_later w _ C2 at (e.signature o).gives first.1)

    pub designator_later : (d : s.Designator) → designator_after w.at d ≡ true → entity_judged w (e.designate env d) ≡ true
    designator_later (s.Designate x ss) h =
        let parts = and_parts (name_after w.at x) (selectors_after w.at ss) h in
        selectors_later (then_judge (c1_named env x) (before_selectors env x ss)) ss
        (then_entity_later w (c1_named env x) (before_selectors env x ss) (entity_named_later w env known x parts.0)
        (λ y g. before_selectors_later w env x ss y parts.0 g)) parts.1

    selectors_later : (j : Judged Entity) (ss : s.Selectors) → entity_judged w j ≡ true → selectors_after w.at ss ≡ true
        → entity_judged w (e.apply_selectors env j ss) ≡ true
    selectors_later j s.NoSelectors g h = g
    selectors_later j (s.MoreSelectors y ys) g h =
        let parts = and_parts (selector_after w.at y) (selectors_after w.at ys) h in
        selectors_later (e.select env j y) ys (selector_later j y g parts.0) parts.1

    selector_later : (j : Judged Entity) (y : s.Selector) → entity_judged w j ≡ true → selector_after w.at y ≡ true
        → entity_judged w (e.select env j y) ≡ true
    selector_later j (s.Field at x) g h =
        let parts = and_parts (nat_lt w.at at) (name_after w.at x) h in
        then_entity_later w j (member_of env at x) g (λ y _. member_later w env at x y parts.0 parts.1)
    selector_later j (s.Indexed is) g h = indices_later j is g h

    indices_later : (j : Judged Entity) (is : s.Indices) → entity_judged w j ≡ true → indices_after w.at is ≡ true
        → entity_judged w (e.apply_indices env j is) ≡ true
    indices_later j s.NoIndices g h = g
    indices_later j (s.MoreIndices at i is) g h =
        let parts = and_parts (nat_lt w.at at && expression_after w.at i) (indices_after w.at is) h in
        let first = and_parts (nat_lt w.at at) (expression_after w.at i) parts.0 in
        indices_later (both (then_judge j (c2_array env at)) (e.judge env mode.Value i) (c2_index env (first_token i))) is
        (both_entity_later w (then_judge j (c2_array env at)) (e.judge env mode.Value i) (c2_index env (first_token i))
        (then_later w j (c2_array env at) (entity_reported w j g) (λ y. array_later w env at y first.0))
        (expression_later mode.Value i first.1) (λ part t. index_later w env (first_token i) part t (token_after w.at i first.1))) parts.1

    pub arguments_later : (ws : List Want) (es : s.Expressions) → expressions_after w.at es ≡ true → judged_later w (e.arguments env ws es) ≡ true
    arguments_later ws s.NoExpressions h = refl
    arguments_later [] (s.MoreExpressions x es) h =
        let parts = and_parts (expression_after w.at x) (expressions_after w.at es) h in
        more_arguments_later (e.judge env mode.Value x) [] es (expression_later mode.Value x parts.0) parts.1
    arguments_later (want ∷ ws) (s.MoreExpressions x es) h =
        let parts = and_parts (expression_after w.at x) (expressions_after w.at es) h in
        more_arguments_later (e.argument env want x (e.judge env (e.mode_of want) x)) ws es
        (argument_later w env want x (e.judge env (e.mode_of want) x) parts.0 (expression_later (e.mode_of want) x parts.0)) parts.1

    more_arguments_later : (j : Judged ℕ) (ws : List Want) (es : s.Expressions) → judged_later w j ≡ true → expressions_after w.at es ≡ true
        → judged_later w (e.more_arguments env j ws es) ≡ true
    more_arguments_later j ws s.NoExpressions g h = g
    more_arguments_later j [] (s.MoreExpressions x es) g h =
        let parts = and_parts (expression_after w.at x) (expressions_after w.at es) h in
        let more : Judged ℕ = e.judge env mode.Value x in
        more_arguments_later (both j more e.first_type) [] es
        (both_later w j more e.first_type g (expression_later mode.Value x parts.0) (λ t u. refl)) parts.1
    more_arguments_later j (want ∷ ws) (s.MoreExpressions x es) g h =
        let parts = and_parts (expression_after w.at x) (expressions_after w.at es) h in
        let more : Judged ℕ = e.argument env want x (e.judge env (e.mode_of want) x) in
        more_arguments_later (both j more e.first_type) ws es
        (both_later w j more e.first_type g
        (argument_later w env want x (e.judge env (e.mode_of want) x) parts.0 (expression_later (e.mode_of want) x parts.0)) (λ t u. refl)) parts.1

  -- an expression that is compared with what is wanted
  pub value_compared_later : (b : ℕ → Bool) (rule : Rule) (m : Mode) (x : s.Expression) → expression_after w.at x ≡ true
      → judged_later w (then_judge (e.judge env m x) (λ t. guard (b t) rule (first_token x) t)) ≡ true
  value_compared_later b rule m x h = compared_later w env b rule x (e.judge env m x) h (expression_later m x h)
