-- The needs of statements: what their calls, and the bodies that they start, take by the meaning is
-- at most what the rules count.
use Rattle.std.proofs.Common.{◌≡◌, ℕ, max, Bool, true, false, List, [], ◌∷◌, ◌++◌, Option, Some, if◌then◌else◌, nat_eq, refl, ap, sym, subst, ◌∙◌, arith, length}
use Rattle.cp_model.specs.Syntax as s
use Rattle.cp_model.specs.Abstract as a
use Rattle.cp_model.specs.Erase as erase
use Rattle.cp_model.specs.declared.tree.Sort.{Sort}
use Rattle.cp_model.specs.declared.tree.Sort.TheVariants as sort
use Rattle.cp_model.specs.declared.rules.Rule.TheVariants.{C2, C12}
use Rattle.cp_model.specs.declared.rules.Access.TheVariants as access
use Rattle.cp_model.specs.declared.rules.Entity.{Entity}
use Rattle.cp_model.specs.declared.rules.Entity.TheVariants as entity
use Rattle.cp_model.specs.declared.rules.Returns.{Returns}
use Rattle.cp_model.specs.declared.rules.Returns.TheVariants as returns
use Rattle.cp_model.specs.declared.rules.ParameterRow.{ParameterRow}
use Rattle.cp_model.specs.declared.rules.SystemRow.{SystemRow}
use Rattle.cp_model.specs.declared.rules.Mode.TheVariants as mode
use Rattle.cp_model.specs.RulesJudged.{Judged, Sound, Broken, also, both, guard, then_judge, violations_of}
use Rattle.cp_model.specs.RulesEnvironment.{Environment, agree, base_of, boolean, c1_named, is_base, is_component, is_simple, row_of, system_row, Text}
use Rattle.cp_model.specs.RulesNames as rules
use Rattle.cp_model.specs.RulesNames.{before_selectors, c10_designator, c2_indexed, c8_named, count_of, first_name, first_token, procedure_of, value_of, c2_c5_c8_named}
use Rattle.cp_model.specs.RulesExpressions.{arguments, designate, judge, result_of, wants_in}
use Rattle.cp_model.specs.RulesStatements as st
use Rattle.cp_model.specs.RulesStatements.{Label, Labelled, assignment, bound, c12_component, c12_count, c12_init, c12_passed, c2_condition, c2_selector, c2_sides, component_argument, for_variable, init_argument, init_arguments, init_item, init_items, judged_unless, labels, left_side, left_by, lone_component, other_left_side, own_result, parameters_in, call_statement, right, selector_base}
use Rattle.cp_model.specs.RulesNeeds.{need_arms, need_body_of, need_designator, need_expression, need_expressions, need_initialised, need_items, need_statement, need_statements, need_system}
use Rattle.cp_model.specs.Types.{GlobalScope}
use Rattle.cp_model.specs.Components.{Component, component_named}
use Rattle.cp_law_typing.specs.Judgement.{Place}
use Rattle.cp_law_typing.specs.Needs.{call_need, in_arms, in_statement, of_body, of_component, start_need}
use Rattle.cp_model.proofs.Judging.{BothSound, also_rest, also_sound, both_parts, both_sound, first_empty, provided_holds, rest_empty, sound_has, then_sound}
use Rattle.cp_law_typing.proofs.TableMeanings.{Types, ParametersAs, TypeAt}
use Rattle.cp_law_typing.proofs.Visible.{Visible, component_of}
use Rattle.cp_law_typing.proofs.Calls.{AllSound, FirstIs, arguments_sound}
use Rattle.cp_law_typing.proofs.InitItems.{ItemParts, item_parts}
use Rattle.cp_law_typing.proofs.AssignmentsTyped.{agrees_alone}
use Rattle.cp_law_typing.proofs.ExpressionNeeds.{Bounded, IsUsed, arguments_bounded, designator_bounded, expression_bounded, expression_takes, expressions_take, inside, inside_bounded, max_bounded, used_by_procedure}
use Rattle.cp_law_typing.proofs.Arguments.{optional_same}
use Rattle.cp_model.specs.Declarations.{Variable}

module _ (G : GlobalScope → Type 0) (env : Environment) (rs : Types) (p : Place) (v : Visible G env rs p) (n : ℕ) where
  abbrev pub statement_takes : a.Statement → ℕ
  statement_takes x = in_statement (call_need n p.env.globals p.env.system) (start_need n p.env.globals) p.env x

  abbrev pub arms_take : a.Arms → ℕ
  arms_take x = in_arms (call_need n p.env.globals p.env.system) (start_need n p.env.globals) p.env x

  abbrev takes : a.Expression → ℕ
  takes e = expression_takes G env rs p v n e

  abbrev all_take : a.Expressions → ℕ
  all_take es = expressions_take G env rs p v n es

  abbrev within : a.Designator → ℕ
  within d = inside G env rs p v n d

  -- ---- what is judged at its first token, and its need

  judged_bounded : (e : s.Expression) (k : ℕ → Judged ℕ) → violations_of (then_judge (judge env mode.Value e) k) ≡ [] → Bounded (takes (erase.expression e)) (need_expression env e)
  judged_bounded e k h =
      let is : (t : ℕ) × (then_judge (judge env mode.Value e) k ≡ Sound t) = sound_has (then_judge (judge env mode.Value e) k) h in
      let parts : (u : ℕ) × (judge env mode.Value e ≡ Sound u) × (k u ≡ Sound is.0) = then_sound (judge env mode.Value e) k is.0 is.1 in
      expression_bounded G env rs p v n e mode.Value parts.0 parts.1

  value_bounded : (e : s.Expression) → violations_of (judge env mode.Value e) ≡ [] → Bounded (takes (erase.expression e)) (need_expression env e)
  value_bounded e h = let is : (t : ℕ) × (judge env mode.Value e ≡ Sound t) = sound_has (judge env mode.Value e) h in expression_bounded G env rs p v n e mode.Value is.0 is.1

  bound_bounded : (t : ℕ) (e : s.Expression) → violations_of (bound env (Sound t) e) ≡ [] → Bounded (takes (erase.expression e)) (need_expression env e)
  bound_bounded t e h = judged_bounded e (λ u. guard (agree env t u) C2 (first_token e) u) h

  -- ---- assignments

  left_bounded : (e : s.Designator) (t : ℕ) → left_side env e ≡ Sound t → Bounded (within (erase.designator e)) (need_designator env e)
  left_bounded (s.Designate x ss) t h = go (c1_named env x) refl h
    where
      other : other_left_side env (s.Designate x ss) ≡ Sound t → Bounded (within (erase.designator (s.Designate x ss))) (need_designator env (s.Designate x ss))
      other g =
          let is : (e : Entity) × (designate env (s.Designate x ss) ≡ Sound e) × (value_of env mode.Variable (s.Designate x ss) e ≡ Sound t) =
          then_sound (designate env (s.Designate x ss)) (value_of env mode.Variable (s.Designate x ss)) t
          (also_sound (c2_c5_c8_named env mode.Variable (s.Designate x ss) ++ c10_designator env (s.Designate x ss)) _ t g) in
          λ l. omega (arith, inside_bounded G env rs p v n x ss is.0 is.1 (omega (arith, l)))

      own : (ss : s.Selectors) (o : Returns) → own_result x ss o ≡ Sound t → within (erase.designator (s.Designate x ss)) ≡ 0
      own s.NoSelectors o g = refl
      own (s.MoreSelectors y ys) returns.Nothing g = absurd (cc)
      own (s.MoreSelectors y ys) (returns.Value u) g = absurd (cc)
      own (s.MoreSelectors y ys) (returns.Broken w) g = absurd (cc)

      go : (j : Judged Entity) → c1_named env x ≡ j → left_by env x ss j ≡ Sound t → Bounded (within (erase.designator (s.Designate x ss))) (need_designator env (s.Designate x ss))
      go (Sound (entity.UnfinishedRoutine r)) is g = λ l. omega (arith, own ss r.returns g)
      go (Sound (entity.Constant b k)) is g = other g
      go (Sound (entity.Type u)) is g = other g
      go (Sound (entity.Variable u q)) is g = other g
      go (Sound (entity.Routine r)) is g = other g
      go (Sound (entity.Entry r)) is g = other g
      go (Sound (entity.Standard f)) is g = other g
      go (Sound entity.UnfinishedConstant) is g = other g
      go (Sound entity.UnfinishedType) is g = other g
      go (Sound entity.Hidden) is g = other g
      go (Sound (entity.Broken w)) is g = other g
      go (Broken w ws) is g = other g

  assigned_bounded : (e : s.Designator) (at : ℕ) (x : s.Expression) → assignment env e at x ≡ []
      → Bounded (statement_takes (a.Assign (erase.designator e) (erase.expression x))) (max (need_designator env e) (need_expression env x))
  assigned_bounded e at x h =
      let sides : BothSound (left_side env e) (right env (left_side env e) x) (c2_sides env at) = both_parts _ _ _ h in
      let fits : agree env sides.x sides.y ≡ true = provided_holds (agree env sides.x sides.y) C2 at sides.x sides.outside in
      let alone : is_component env sides.x ≡ false =
      agrees_alone G env rs p v (row_of env sides.x).structure (row_of env sides.y).structure (nat_eq sides.x sides.y) fits in
      let value : judge env mode.Value x ≡ Sound sides.y =
      sym (ap (λ b. judged_unless (judge env mode.Value x) b (lone_component env x)) alone)
      ∙ sym (ap (λ j. right env j x) sides.left) ∙ sides.right in
      max_bounded _ _ _ _ (left_bounded e sides.x sides.left) (expression_bounded G env rs p v n x mode.Value sides.y value)

  -- ---- procedures

  performed_bounded : (e : s.Designator) (es : s.Expressions) → call_statement env e es ≡ []
      → Bounded (statement_takes (a.Perform (erase.designator e) (erase.expressions es))) (max (need_designator env e) (need_expressions env es))
  performed_bounded e es h =
      let callee : Judged rules.Callee = also (c2_indexed env mode.Value e) (then_judge (designate env e) (procedure_of env e (count_of es))) in
      let sound : (t : ℕ) × (both callee (arguments env (wants_in env (designate env e) callee) es) (result_of env) ≡ Sound t) =
      sound_has (both callee (arguments env (wants_in env (designate env e) callee) es) (result_of env)) (rest_empty (c2_c5_c8_named env mode.Value e) _ h) in
      let is : (c : rules.Callee) × (u : ℕ) × (callee ≡ Sound c) × (arguments env (wants_in env (designate env e) callee) es ≡ Sound u) × (result_of env c u ≡ Sound sound.0) =
      both_sound callee (arguments env (wants_in env (designate env e) callee) es) (result_of env) sound.0 sound.1 in
      let of : (e0 : Entity) × (designate env e ≡ Sound e0) × (procedure_of env e (count_of es) e0 ≡ Sound is.0) =
      then_sound (designate env e) (procedure_of env e (count_of es)) is.0 (also_sound (c2_indexed env mode.Value e) _ is.0 is.2) in
      let all : AllSound env is.0.wants es × FirstIs env is.0.wants es is.1 =
      arguments_sound env es is.0.wants is.1 (sym (ap (λ j. arguments env (wants_in env (designate env e) j) es) is.2) ∙ is.3) in
      let name = designator_bounded G env rs p v n e of.0 of.1 (used_by_procedure env e (count_of es) of.0 is.0 of.2) in
      let passed = arguments_bounded G env rs p v n es is.0.wants all.0 in
      λ l. omega (arith, name (omega (arith, l)), passed (omega (arith, l)))

  -- ---- init

  -- a component that is passed on isn't a call
  passed_bounded : (u : ℕ) (e : s.Expression) → violations_of (component_argument env u e) ≡ [] → Bounded (takes (erase.expression e)) (need_expression env e)
  passed_bounded u (s.Designated (s.Designate x s.NoSelectors)) h =
      let rest : violations_of (then_judge (c1_named env x) (c12_passed env u x)) ≡ [] = also_rest (c8_named env mode.Value x) _ h in
      let is : (t : ℕ) × (then_judge (c1_named env x) (c12_passed env u x) ≡ Sound t) = sound_has _ rest in
      let of : (e0 : Entity) × (c1_named env x ≡ Sound e0) × (c12_passed env u x e0 ≡ Sound is.0) = then_sound (c1_named env x) (c12_passed env u x) is.0 is.1 in
      designator_bounded G env rs p v n (s.Designate x s.NoSelectors) of.0 (ap (λ j. then_judge j (before_selectors env x s.NoSelectors)) of.1) (variable of.0 is.0 of.2)
    where
      variable : (e0 : Entity) (t : ℕ) → c12_passed env u x e0 ≡ Sound t → IsUsed e0
      variable (entity.Variable t acc) w g = tt
      variable (entity.Constant b k) w g = tt
      variable (entity.Routine r) w g = tt
      variable (entity.Entry r) w g = tt
      variable (entity.Standard f) w g = tt
      variable (entity.Type t) w g = absurd (cc)
      variable entity.UnfinishedConstant w g = absurd (cc)
      variable entity.UnfinishedType w g = absurd (cc)
      variable (entity.UnfinishedRoutine r) w g = absurd (cc)
      variable entity.Hidden w g = absurd (cc)
      variable (entity.Broken k) w g = absurd (cc)
  passed_bounded u (s.Designated (s.Designate x (s.MoreSelectors z zs))) h = absurd (cc)
  passed_bounded u (s.Number at k) h = absurd (cc)
  passed_bounded u (s.Character at k) h = absurd (cc)
  passed_bounded u (s.Call e es) h = absurd (cc)
  passed_bounded u (s.Parenthesized at e) h = absurd (cc)
  passed_bounded u (s.Not at e) h = absurd (cc)
  passed_bounded u (s.Signed sg at e) h = absurd (cc)
  passed_bounded u (s.Binary e o at f) h = absurd (cc)

  argument_bounded : (u : ℕ) (e : s.Expression) → violations_of (init_argument env (Some u) e) ≡ [] → Bounded (takes (erase.expression e)) (need_expression env e)
  argument_bounded u e h = go (is_component env u) h
    where
      go : (b : Bool) → violations_of (if b then component_argument env u e else then_judge (judge env mode.Value e) (λ t. guard (agree env u t) C12 (first_token e) t)) ≡ []
          → Bounded (takes (erase.expression e)) (need_expression env e)
      go true g = passed_bounded u e g
      go false g = judged_bounded e (λ t. guard (agree env u t) C12 (first_token e) t) g

  init_arguments_bounded : (es : s.Expressions) (qs : List ParameterRow) (xs : List (Text × Variable)) → ParametersAs rs qs xs → length qs ≡ count_of es
      → init_arguments env qs es ≡ [] → Bounded (all_take (erase.expressions es)) (need_expressions env es)
  init_arguments_bounded s.NoExpressions qs xs r n h = λ l. omega arith
  init_arguments_bounded (s.MoreExpressions e es) [] xs r n h = absurd (omega (arith, n))
  init_arguments_bounded (s.MoreExpressions e es) (q ∷ qs) [] r n h = absurd r
  init_arguments_bounded (s.MoreExpressions e es) (q ∷ qs) (x ∷ xs) r n h =
      let of : (t : ℕ) × (q.of ≡ Some t) × TypeAt rs t x.1.type = optional_same G env rs p v q.of x.1.type r.1 in
      max_bounded _ _ _ _
      (argument_bounded of.0 e (sym (ap (λ o. violations_of (init_argument env o e)) of.1) ∙ first_empty (violations_of (init_argument env q.of e)) _ h))
      (init_arguments_bounded es qs xs r.2 (omega (arith, n)) (rest_empty (violations_of (init_argument env q.of e)) _ h))

  -- the body of a class or a monitor that is initialised
  started_bounded : (i : s.InitItem) (k : ItemParts G env rs p v i)
      → Bounded (of_component (call_need n p.env.globals p.env.system) (start_need n p.env.globals) p.env (component_named p.env i.component.name))
      (need_initialised env (c1_named env i.component))
  started_bounded i k =
      let component : Component = record { name = i.component.name; system = k.system; is_parameter = false } in
      let named : component_named p.env i.component.name ≡ Some component = k.part.component ∙ ap (component_of i.component.name access.Own) k.type in
      subst (λ o. Bounded (of_component (call_need n p.env.globals p.env.system) (start_need n p.env.globals) p.env o) (need_initialised env (c1_named env i.component))) (sym named)
      (subst (Bounded (start_need n p.env.globals component)) (sym (ap (need_initialised env) k.own.is ∙ ap (need_system env) k.own.system))
      (by_sort (system_row env k.number).sort k.system.sort (system_row env k.number) _ k.meets.sort (k.meets.body_need n p.env.globals v.scope)))
    where
      by_sort : (z : Sort) (w : a.Sort) (row : SystemRow) (m : ℕ) → erase.sort_of z ≡ w → Bounded m row.body_need → Bounded (of_body w m) (need_body_of row z)
      by_sort sort.Process w row m is f = subst (λ w. Bounded (of_body w m) 0) is (λ l. omega arith)
      by_sort sort.Monitor w row m is f = subst (λ w. Bounded (of_body w m) row.body_need) is f
      by_sort sort.Class w row m is f = subst (λ w. Bounded (of_body w m) row.body_need) is f

  items_bounded : (is : List s.InitItem) → init_items env is ≡ [] → Bounded (statement_takes (erase.items is)) (need_items env is)
  items_bounded [] h = λ l. omega arith
  items_bounded (i ∷ is) h =
      let k : ItemParts G env rs p v i = item_parts G env rs p v i (first_empty (init_item env i) _ h) in
      max_bounded _ _ _ _
      (max_bounded _ _ _ _ (started_bounded i k) (init_arguments_bounded i.arguments k.rows k.meets.heading.variables k.rows_as k.count k.arguments_sound))
      (items_bounded is (rest_empty (init_item env i) _ h))

  -- ---- all statements

  mutual
    pub statement_bounded : (x : s.Statement) → st.statement env x ≡ [] → Bounded (statement_takes (erase.statement x)) (need_statement env x)
    statement_bounded s.Empty h = λ l. omega arith
    statement_bounded (s.Assign e at x) h = assigned_bounded e at x h
    statement_bounded (s.Perform e es) h = performed_bounded e es h
    statement_bounded (s.Compound l) h = statements_bounded l h
    statement_bounded (s.If e x) h =
        let c = judged_bounded e (λ t. guard (is_base boolean (base_of env t)) C2 (first_token e) t) (first_empty (violations_of (c2_condition env e)) _ h) in
        let one = statement_bounded x (rest_empty (violations_of (c2_condition env e)) _ h) in
        λ l. omega (arith, c (omega (arith, l)), one (omega (arith, l)))
    statement_bounded (s.IfElse e x y) h =
        let first : violations_of (c2_condition env e) ++ st.statement env x ≡ [] = first_empty _ (st.statement env y) h in
        max_bounded _ _ _ _ (judged_bounded e (λ t. guard (is_base boolean (base_of env t)) C2 (first_token e) t) (first_empty (violations_of (c2_condition env e)) _ first))
        (max_bounded _ _ _ _ (statement_bounded x (rest_empty (violations_of (c2_condition env e)) _ first))
        (statement_bounded y (rest_empty (violations_of (c2_condition env e) ++ st.statement env x) _ h)))
    statement_bounded (s.Case e arms) h =
        max_bounded _ _ _ _ (judged_bounded e (λ t. guard (is_simple env t) C2 (first_token e) t) (first_empty (violations_of (c2_selector env e)) _ h))
        (arms_bounded arms (selector_base env (c2_selector env e)) [] (rest_empty (violations_of (c2_selector env e)) _ h))
    statement_bounded (s.While e x) h =
        max_bounded _ _ _ _ (judged_bounded e (λ t. guard (is_base boolean (base_of env t)) C2 (first_token e) t) (first_empty (violations_of (c2_condition env e)) _ h))
        (statement_bounded x (rest_empty (violations_of (c2_condition env e)) _ h))
    statement_bounded (s.Repeat l e) h =
        max_bounded _ _ _ _ (statements_bounded l (first_empty (st.statements env l) _ h))
        (judged_bounded e (λ t. guard (is_base boolean (base_of env t)) C2 (first_token e) t) (rest_empty (st.statements env l) _ h))
    statement_bounded (s.For x from to until y) h =
        let j : Judged ℕ = for_variable env x in
        let three : violations_of j ++ violations_of (bound env j from) ++ violations_of (bound env j until) ≡ [] = first_empty _ (st.statement env y) h in
        let two : violations_of j ++ violations_of (bound env j from) ≡ [] = first_empty _ (violations_of (bound env j until)) three in
        let is : (t : ℕ) × (j ≡ Sound t) = sound_has j (first_empty (violations_of j) _ two) in
        max_bounded _ _ _ _
        (max_bounded _ _ _ _ (bound_bounded is.0 from (sym (ap (λ z. violations_of (bound env z from)) is.1) ∙ rest_empty (violations_of j) _ two))
        (bound_bounded is.0 until (sym (ap (λ z. violations_of (bound env z until)) is.1) ∙ rest_empty (violations_of j ++ violations_of (bound env j from)) _ three)))
        (statement_bounded y (rest_empty (violations_of j ++ violations_of (bound env j from) ++ violations_of (bound env j until)) _ h))
    statement_bounded (s.Cycle l) h = statements_bounded l h
    statement_bounded (s.Init at is) h = items_bounded is (rest_empty (c12_init env at) _ h)

    pub statements_bounded : (l : s.Statements) → st.statements env l ≡ [] → Bounded (statement_takes (erase.statements l)) (need_statements env l)
    statements_bounded s.NoStatements h = λ l. omega arith
    statements_bounded (s.MoreStatements x xs) h =
        max_bounded _ _ _ _ (statement_bounded x (first_empty (st.statement env x) _ h)) (statements_bounded xs (rest_empty (st.statement env x) _ h))

    arms_bounded : (l : s.Arms) (base : Option ℕ) (seen : List Label) → st.arms env base seen l ≡ [] → Bounded (arms_take (erase.arms l)) (need_arms env l)
    arms_bounded s.NoArms base seen h = λ l. omega arith
    arms_bounded (s.MoreArms cs x rest) base seen h =
        let one : Labelled = labels env base seen cs in
        let first : one.violations ++ st.statement env x ≡ [] = first_empty _ (st.arms env base one.seen rest) h in
        max_bounded _ _ _ _ (statement_bounded x (rest_empty one.violations _ first)) (arms_bounded rest base one.seen (rest_empty (one.violations ++ st.statement env x) _ h))
