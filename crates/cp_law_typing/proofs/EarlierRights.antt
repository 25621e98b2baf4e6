-- What `init` passes on in a body in which nothing is broken: a right to a component has the row of
-- its parameter, and the row of a parameter is below that of the system type that has it. So if
-- monitors of lower rows have earlier places, each right that a monitor gets is to an earlier one.
use Rattle.std.proofs.Common.{◌≡◌, ◌<◌, ◌++◌, ℕ, Bool, true, false, List, [], ◌∷◌, Option, Some, nat_eq, eqb-true, if◌then◌else◌, refl, ap, sym, subst, ◌∙◌}
use Rattle.std.proofs.lemmas.Bool.{true≢false}
use Rattle.cp_model.specs.Syntax as s
use Rattle.cp_model.specs.Abstract as a
use Rattle.cp_model.specs.Erase as erase
use Rattle.cp_model.specs.declared.tree.Identifier.{Identifier}
use Rattle.cp_model.specs.declared.rules.Rule.TheVariants.{C12}
use Rattle.cp_model.specs.declared.rules.Access.{Access}
use Rattle.cp_model.specs.declared.rules.Access.TheVariants as access
use Rattle.cp_model.specs.declared.rules.Entity.{Entity}
use Rattle.cp_model.specs.declared.rules.Entity.TheVariants as entity
use Rattle.cp_model.specs.declared.rules.ParameterRow.{ParameterRow}
use Rattle.cp_model.specs.declared.rules.Mode.TheVariants as mode
use Rattle.cp_model.specs.RulesJudged.{Judged, Sound, then_judge, guard, violations_of}
use Rattle.cp_model.specs.RulesEnvironment.{Environment, Text, c1_named, c4_c9_named, is_component, row_of}
use Rattle.cp_model.specs.RulesNames.{c8_named, first_token}
use Rattle.cp_model.specs.RulesExpressions.{judge}
use Rattle.cp_model.specs.RulesStatements as st
use Rattle.cp_model.specs.RulesStatements.{Labelled, bound, c12_init, c12_passed, c2_condition, c2_selector, component_argument, for_variable, init_argument, init_arguments, init_item, init_items, labels, selector_base}
use Rattle.cp_model.specs.Types.{ArrayOf, ComponentOf, GlobalScope, Members, NoType, Queue, RecordOf, ResolvedType, Simple}
use Rattle.cp_model.specs.Declarations as d
use Rattle.cp_model.specs.Declarations.{Variable}
use Rattle.cp_model.specs.Components.{Component, component_named, declared_monitor}
use Rattle.cp_model.specs.Names.{lookup}
use Rattle.cp_law_typing.specs.Judgement.{IsComponentArgument, Place}
use Rattle.cp_law_typing.specs.PassedRights.{AllPassEarlier, EachInit, EachInitIn, IsEarlier, ItemPassesEarlier, PassesEarlier}
use Rattle.cp_model.proofs.Judging.{also_rest, first_empty, provided_holds, rest_empty, sound_has, then_sound}
use Rattle.cp_law_typing.proofs.TableMeanings.{ParametersAs, TypeAt, Types}
use Rattle.cp_law_typing.proofs.TypeOrder.{AllBefore, ParametersBefore}
use Rattle.cp_law_typing.proofs.Visible.{Visible, component_of}
use Rattle.cp_law_typing.proofs.Designators.{resolved}
use Rattle.cp_law_typing.proofs.Arguments.{optional_same}
use Rattle.cp_law_typing.proofs.InitItems.{ItemParts, alone_structure, component_passed, item_parts}

-- Monitors whose variables have lower rows have earlier places.
abbrev pub PlacesFollowRows : (ℕ → ℕ) → Environment → Place → Type 0
PlacesFollowRows place env p =
    (x z : Text) (t u : ℕ) (b q : Access) (c e : Component)
    → lookup x env.names ≡ Some (entity.Variable t b) → component_named p.env x ≡ Some c → c.system.sort ≡ a.Monitor
    → lookup z env.names ≡ Some (entity.Variable u q) → component_named p.env z ≡ Some e → e.system.sort ≡ a.Monitor
    → u < t → place (declared_monitor p.env e) < place (declared_monitor p.env c)

-- A component is one of the body's own, and not a parameter.
abbrev pub OwnComponents : Place → Type 0
OwnComponents p = (x : Text) (c : Component) → component_named p.env x ≡ Some c → c.is_parameter ≡ false

module _ (G : GlobalScope → Type 0) (env : Environment) (rs : Types) (p : Place) (v : Visible G env rs p) (place : ℕ → ℕ)
    (before : ParametersBefore env rs) (own : OwnComponents p) (follow : PlacesFollowRows place env p) where
  -- ---- Arguments

  -- A name that is passed on is that of a variable of the parameter's row.
  same_row : (u : ℕ) (x : Identifier) (e : Entity) → violations_of (c12_passed env u x e) ≡ [] → (acc : Access) × (e ≡ entity.Variable u acc)
  same_row u x (entity.Variable t acc) h = (acc, ap (λ k. entity.Variable k acc) (eqb-true t u (provided_holds (nat_eq t u) C12 x.at t h)))
  same_row u x (entity.Constant b n) h = absurd (cc)
  same_row u x (entity.Type t) h = absurd (cc)
  same_row u x (entity.Routine r) h = absurd (cc)
  same_row u x (entity.Entry r) h = absurd (cc (also_rest (c4_c9_named env x (entity.Entry r)) _ h))
  same_row u x (entity.Standard f) h = absurd (cc (also_rest (c4_c9_named env x (entity.Standard f)) _ h))
  same_row u x entity.UnfinishedConstant h = absurd (cc)
  same_row u x entity.UnfinishedType h = absurd (cc)
  same_row u x (entity.UnfinishedRoutine r) h = absurd (cc)
  same_row u x entity.Hidden h = absurd (cc)
  same_row u x (entity.Broken w) h = absurd (cc)

  row_passed : (u : ℕ) (x : Identifier) → violations_of (component_argument env u (s.Designated (s.Designate x s.NoSelectors))) ≡ []
      → (acc : Access) × (lookup x.name env.names ≡ Some (entity.Variable u acc))
  row_passed u x h =
      let rest : violations_of (then_judge (c1_named env x) (c12_passed env u x)) ≡ [] = also_rest (c8_named env mode.Value x) _ h in
      let is : (t : ℕ) × (then_judge (c1_named env x) (c12_passed env u x) ≡ Sound t) = sound_has _ rest in
      let of : (e : Entity) × (c1_named env x ≡ Sound e) × (c12_passed env u x e ≡ Sound is.0) = then_sound (c1_named env x) (c12_passed env u x) is.0 is.1 in
      let same : (acc : Access) × (of.0 ≡ entity.Variable u acc) = same_row u x of.0 (ap violations_of of.2) in
      (same.0, resolved x (lookup x.name env.names) of.0 of.1 ∙ ap (λ e. Some e) same.1)

  -- the monitor that is initialised
  module _ (x : Text) (t : ℕ) (b : Access) (c : Component) (found : lookup x env.names ≡ Some (entity.Variable t b))
      (named : component_named p.env x ≡ Some c) (monitor : c.system.sort ≡ a.Monitor) where
    abbrev n : ℕ
    n = place (declared_monitor p.env c)

    component_earlier : (u : ℕ) (e : s.Expression) (y : a.System) (inner : Members) → u < t → TypeAt rs u (ComponentOf y inner)
        → violations_of (component_argument env u e) ≡ [] → PassesEarlier place p.env n (ComponentOf y inner) (erase.expression e)
    component_earlier u (s.Designated (s.Designate z s.NoSelectors)) y inner less there h =
        let k : IsComponentArgument p.env y (a.Use (a.Plain z.name)) = component_passed G env rs p v u (s.Designated (s.Designate z s.NoSelectors)) y inner there h in
        let r : (acc : Access) × (lookup z.name env.names ≡ Some (entity.Variable u acc)) = row_passed u z h in
        (k.0, subst (IsEarlier place p.env n) (sym k.2) (own z.name k.1 k.2, λ other. follow x z.name t u b r.0 c k.1 found named monitor r.1 k.2 other less))
    component_earlier u (s.Designated (s.Designate z (s.MoreSelectors w ws))) y inner less there h = absurd (cc)
    component_earlier u (s.Number at k) y inner less there h = absurd (cc)
    component_earlier u (s.Character at k) y inner less there h = absurd (cc)
    component_earlier u (s.Call e es) y inner less there h = absurd (cc)
    component_earlier u (s.Parenthesized at e) y inner less there h = absurd (cc)
    component_earlier u (s.Not at e) y inner less there h = absurd (cc)
    component_earlier u (s.Signed sg at e) y inner less there h = absurd (cc)
    component_earlier u (s.Binary e o at f) y inner less there h = absurd (cc)

    value_earlier : (r : ResolvedType) (e : a.Expression) → d.is_component r ≡ false → PassesEarlier place p.env n r e
    value_earlier (Simple base low high start) e alone = tt
    value_earlier (ArrayOf low high r) e alone = tt
    value_earlier (RecordOf ps) e alone = tt
    value_earlier Queue e alone = tt
    value_earlier NoType e alone = tt
    value_earlier (ComponentOf y inner) e alone = absurd (true≢false alone)

    argument_earlier : (u : ℕ) (r : ResolvedType) (e : s.Expression) → u < t → TypeAt rs u r → violations_of (init_argument env (Some u) e) ≡ []
        → PassesEarlier place p.env n r (erase.expression e)
    argument_earlier u r e less there h = go (is_component env u) refl h
      where
        value : s.Expression → Judged ℕ
        value e = then_judge (judge env mode.Value e) (λ k. guard (Rattle.cp_model.specs.RulesEnvironment.agree env u k) C12 (first_token e) k)

        of : (r : ResolvedType) → TypeAt rs u r → violations_of (component_argument env u e) ≡ [] → PassesEarlier place p.env n r (erase.expression e)
        of (ComponentOf y inner) there h = component_earlier u e y inner less there h
        of (Simple base low high start) there h = tt
        of (ArrayOf low high q) there h = tt
        of (RecordOf ps) there h = tt
        of Queue there h = tt
        of NoType there h = tt

        go : (k : Bool) → is_component env u ≡ k → violations_of (if k then component_argument env u e else value e) ≡ [] → PassesEarlier place p.env n r (erase.expression e)
        go true is h = of r there h
        go false is h = value_earlier r (erase.expression e) (alone_structure G env rs p v (row_of env u).structure r (v.tables.rows u r there).structure is)

    all_earlier : (qs : List ParameterRow) (xs : List (Text × Variable)) (es : s.Expressions) → ParametersAs rs qs xs → AllBefore t qs
        → init_arguments env qs es ≡ [] → AllPassEarlier place p.env n xs (erase.expressions es)
    all_earlier [] [] es h less g = tt
    all_earlier (q ∷ qs) (y ∷ xs) s.NoExpressions h less g = tt
    all_earlier (q ∷ qs) (y ∷ xs) (s.MoreExpressions e es) h less g =
        let of : (u : ℕ) × (q.of ≡ Some u) × TypeAt rs u y.1.type = optional_same G env rs p v q.of y.1.type h.1 in (
          argument_earlier of.0 y.1.type e (less.0 of.0 of.1) of.2
              (sym (ap (λ o. violations_of (init_argument env o e)) of.1) ∙ first_empty (violations_of (init_argument env q.of e)) _ g),
          all_earlier qs xs es h.2 less.1 (rest_empty (violations_of (init_argument env q.of e)) _ g),
        )
    all_earlier [] (y ∷ xs) es h less g = absurd h
    all_earlier (q ∷ qs) [] es h less g = absurd h

  -- ---- Items and statements

  abbrev Earlier : Text → a.Expressions → Type 0
  Earlier x es = ItemPassesEarlier place p.env (component_named p.env x) es

  item_earlier : (i : s.InitItem) → init_item env i ≡ [] → Earlier i.component.name (erase.expressions i.arguments)
  item_earlier i h =
      let x : Identifier = i.component in
      let k : ItemParts G env rs p v i = item_parts G env rs p v i h in
      let c : Component = record { name = x.name; system = k.system; is_parameter = false } in
      let named : component_named p.env x.name ≡ Some c = k.part.component ∙ ap (component_of x.name access.Own) k.type in
      let less : AllBefore k.own.type k.rows =
      subst (AllBefore k.own.type) (sym k.rows_are) (before k.own.type k.number k.system k.inner (subst (TypeAt rs k.own.type) k.type k.part.there) k.own.system) in
      subst (λ o. ItemPassesEarlier place p.env o (erase.expressions i.arguments)) (sym named)
      (λ monitor. subst (λ l. AllPassEarlier place p.env (place (declared_monitor p.env c)) l (erase.expressions i.arguments)) (sym (k.meets.heading.declares p.env.globals v.scope))
      (all_earlier x.name k.own.type access.Own c (resolved x (lookup x.name env.names) (entity.Variable k.own.type access.Own) k.own.is) named monitor
      k.rows k.meets.heading.variables i.arguments k.rows_as less k.arguments_sound))

  items_earlier : (is : List s.InitItem) → init_items env is ≡ [] → EachInit Earlier (erase.items is)
  items_earlier [] h = tt
  items_earlier (i ∷ is) h = (item_earlier i (first_empty (init_item env i) _ h), items_earlier is (rest_empty (init_item env i) _ h))

  mutual
    statement_earlier : (x : s.Statement) → st.statement env x ≡ [] → EachInit Earlier (erase.statement x)
    statement_earlier s.Empty h = tt
    statement_earlier (s.Assign e at x) h = tt
    statement_earlier (s.Perform e es) h = tt
    statement_earlier (s.Compound l) h = statements_earlier l h
    statement_earlier (s.If e x) h = (statement_earlier x (rest_empty (violations_of (c2_condition env e)) _ h), tt)
    statement_earlier (s.IfElse e x y) h = (
      statement_earlier x (rest_empty (violations_of (c2_condition env e)) _ (first_empty _ (st.statement env y) h)),
      statement_earlier y (rest_empty (violations_of (c2_condition env e) ++ st.statement env x) _ h),
    )
    statement_earlier (s.Case e l) h = arms_earlier l (selector_base env (c2_selector env e)) [] (rest_empty (violations_of (c2_selector env e)) _ h)
    statement_earlier (s.While e x) h = statement_earlier x (rest_empty (violations_of (c2_condition env e)) _ h)
    statement_earlier (s.Repeat l e) h = statements_earlier l (first_empty (st.statements env l) _ h)
    statement_earlier (s.For x from to until y) h =
        let j : Judged ℕ = for_variable env x in
        statement_earlier y (rest_empty (violations_of j ++ violations_of (bound env j from) ++ violations_of (bound env j until)) _ h)
    statement_earlier (s.Cycle l) h = statements_earlier l h
    statement_earlier (s.Init at is) h = items_earlier is (rest_empty (c12_init env at) _ h)

    pub statements_earlier : (l : s.Statements) → st.statements env l ≡ [] → EachInit Earlier (erase.statements l)
    statements_earlier s.NoStatements h = tt
    statements_earlier (s.MoreStatements x xs) h =
        (statement_earlier x (first_empty (st.statement env x) _ h), statements_earlier xs (rest_empty (st.statement env x) _ h))

    arms_earlier : (l : s.Arms) (base : Option ℕ) (seen : List _) → st.arms env base seen l ≡ [] → EachInitIn Earlier (erase.arms l)
    arms_earlier s.NoArms base seen h = tt
    arms_earlier (s.MoreArms cs x l) base seen h =
        let one : Labelled = labels env base seen cs in (
          statement_earlier x (rest_empty one.violations _ (first_empty _ (st.arms env base one.seen l) h)),
          arms_earlier l base one.seen (rest_empty (one.violations ++ st.statement env x) _ h),
        )
