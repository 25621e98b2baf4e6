-- Statements in which nothing is broken are typed.
use Rattle.std.proofs.Common.{◌≡◌, inl, inr, ℕ, true, ◌&&◌, List, [], ◌∷◌, ◌++◌, Option, Some, None, length, refl, ap, sym, subst, ◌∙◌, is_some}
use Rattle.std.proofs.lemmas.Bool.{true≢false, and_parts}
use Rattle.cp_model.specs.Syntax as s
use Rattle.cp_model.specs.Abstract as a
use Rattle.cp_model.specs.Erase as erase
use Rattle.cp_model.specs.declared.tree.Identifier.{Identifier}
use Rattle.cp_model.specs.declared.tree.Sort.{Sort}
use Rattle.cp_model.specs.declared.tree.Sort.TheVariants as sort
use Rattle.cp_model.specs.declared.rules.Rule.TheVariants.{C2}
use Rattle.cp_model.specs.declared.rules.Entity.{Entity}
use Rattle.cp_model.specs.declared.rules.Standard.{Standard}
use Rattle.cp_model.specs.declared.rules.Standard.TheVariants as standard
use Rattle.cp_model.specs.declared.rules.Returns.{Returns}
use Rattle.cp_model.specs.declared.rules.Returns.TheVariants as returns
use Rattle.cp_model.specs.declared.rules.Want.{Want}
use Rattle.cp_model.specs.declared.rules.Want.TheVariants as want
use Rattle.cp_model.specs.declared.rules.Gives.{Gives}
use Rattle.cp_model.specs.declared.rules.Gives.TheVariants as gives
use Rattle.cp_model.specs.declared.rules.Mode.TheVariants as mode
use Rattle.cp_model.specs.RulesJudged.{Judged, Sound, also, both, then_judge, guard, violations_of}
use Rattle.cp_model.specs.RulesEnvironment.{Environment, Text, agree, base_of, boolean, is_allowed, is_base, is_in_entry, is_monitor, is_process, is_simple}
use Rattle.cp_model.specs.RulesNames.{c10_designator, c10_variable, c2_indexed, c8_named, count_of, first_name, first_token, has_queues as names_queues, is_changeable, last_name, procedure_of, standard_procedure, value_of, c2_c5_c8_named}
use Rattle.cp_model.specs.RulesNames as rules
use Rattle.cp_model.specs.RulesExpressions.{argument, arguments, designate, judge, result_of, wants_in}
use Rattle.cp_model.specs.RulesStatements as st
use Rattle.cp_model.specs.RulesStatements.{Label, Labelled, assignment, bound, c12_component, c12_count, c12_init, c12_passed, c2_c3_label, c2_condition, c2_selector, c2_sides, component_argument, fits_selector, for_variable, init_argument, init_arguments, init_item, init_items, is_among, judged_unless, labels, left_side, left_by, lone_component, more_seen, other_left_side, own_result, parameters_in, call_statement, plain, right, selector_base, system_initialised, with_label}
use Rattle.cp_model.specs.Types.{GlobalScope, ResolvedType}
use Rattle.cp_model.specs.Environments.{Frame}
use Rattle.cp_model.specs.Calls.{callee}
use Rattle.cp_law_typing.specs.StaticTypes.{expression_type, place_type}
use Rattle.cp_law_typing.specs.Judgement as typed
use Rattle.cp_law_typing.specs.Judgement.{Agree, AllFit, AllInitFit, Called, InitFits, Initialises, IsChangeable, IsCharVariable, IsComponentArgument, IsNew, IsOfBase, IsProcedureCall, IsStandardStatement, Place, TypedArms, TypedExpression, TypedExpressions, TypedLabels, TypedPlace, TypedStatement, has_queues, IsInMonitorRoutine, labels_seen}
use Rattle.cp_model.proofs.Judging.{also_none, also_sound, both_sound, first_empty, provided_sound, rest_empty, sound_has, then_sound}
use Rattle.cp_law_typing.proofs.TableMeanings.{BaseAt, ReturnsAs, TypeAt, Types, standard_name}
use Rattle.cp_law_typing.proofs.Visible.{ExpressionAs, PartAs, Visible, agree_as, agree_value, base_for, base_is, of_base, some_same}
use Rattle.cp_law_typing.proofs.Calls.{AllSound, FirstIs, ProcedureCalled, UserCalled, arguments_sound, procedure_as}
use Rattle.cp_law_typing.proofs.Arguments.{AllAs, ArgumentAs, VariablePart, heading_fits}
use Rattle.cp_law_typing.proofs.Expressions.{arguments_as, designated_as, judged_as, varied_as, with_base}
use Rattle.cp_law_typing.proofs.StandardFunctions.{SimpleArgument, in_monitor, nothing_passed, passed_as, queue_argument, simple_argument, simple_value, single}
use Rattle.cp_law_typing.proofs.AssignmentsTyped.{assigned_as, use_in}
use Rattle.cp_law_typing.proofs.Labels.{AllOf, ordinals, LabelsAs, labels_as}
use Rattle.cp_law_typing.proofs.InitItems.{items_as, init_body}

module _ (G : GlobalScope → Type 0) (env : Environment) (rs : Types) (p : Place) (v : Visible G env rs p) where
  -- ---- conditions and selectors

  condition_as : (e : s.Expression) → violations_of (c2_condition env e) ≡ [] → TypedExpression p (erase.expression e) × IsOfBase a.Boolean (expression_type p.env (erase.expression e))
  condition_as e h =
      let is : (t : ℕ) × (c2_condition env e ≡ Sound t) = sound_has (c2_condition env e) h in
      let parts : (u : ℕ) × (judge env mode.Value e ≡ Sound u) × (guard (is_base boolean (base_of env u)) C2 (first_token e) u ≡ Sound is.0) =
      then_sound (judge env mode.Value e) (λ t. guard (is_base boolean (base_of env t)) C2 (first_token e) t) is.0 is.1 in
      let m : ExpressionAs G env rs p (erase.expression e) parts.0 = judged_as G env rs p v e mode.Value parts.0 parts.1 in (
        m.typed,
        with_base G env rs p v (erase.expression e) parts.0 boolean a.Boolean m v.tables.boolean (provided_sound (is_base boolean (base_of env parts.0)) C2 (first_token e) parts.0 is.0 parts.2).0,
      )

  -- ---- for

  -- the base of the variable of a `for`, and its place
  pub record ForAs (x : Identifier) (t : ℕ) : Type 0 where
    pub part_of : VariablePart G env rs p (a.Use (a.Plain x.name)) t
    pub type : ResolvedType
    pub there : TypeAt rs t type
    pub place : place_type p.env (a.Plain x.name) ≡ type
    pub base : a.BaseType
    pub of : IsOfBase base type
    pub variable : typed.NamesVariable p.env x.name
    pub no_call : callee p.env (a.Plain x.name) ≡ None
    pub changeable : IsChangeable p.env (a.Plain x.name)

  for_as : (x : Identifier) (t : ℕ) → for_variable env x ≡ Sound t → ForAs x t
  for_as x t h =
      let variable : c10_designator env (plain x) ≡ [] = also_none (c10_designator env (plain x)) _ t h in
      let parts : (u : ℕ) × (judge env mode.Variable (s.Designated (plain x)) ≡ Sound u) × (guard (is_simple env u) C2 x.at u ≡ Sound t) =
      then_sound (judge env mode.Variable (s.Designated (plain x))) (λ u. guard (is_simple env u) C2 x.at u) t (also_sound (c10_designator env (plain x)) _ t h) in
      let simple : (is_simple env parts.0 ≡ true) × (parts.0 ≡ t) = provided_sound (is_simple env parts.0) C2 x.at parts.0 t parts.2 in
      let q : VariablePart G env rs p (a.Use (a.Plain x.name)) t =
      subst (VariablePart G env rs p (a.Use (a.Plain x.name))) simple.1 (varied_as G env rs p v (s.Designated (plain x)) parts.0 parts.1 variable) in
      let same : q.designator ≡ a.Plain x.name = ap use_in (sym q.is) in
      let y : PartAs G env rs p (a.Plain x.name) t q.access = subst (λ z. PartAs G env rs p z t q.access) same q.part in
      let base : (b : a.BaseType) × IsOfBase b y.type = simple_type t y.type y.there (ap (is_simple env) (sym simple.1) ∙ simple.0) in
      record {
        part_of = q;
        type = y.type;
        there = y.there;
        place = y.place;
        base = base.0;
        of = base.1;
        variable = y.typed_place;
        no_call = y.no_call;
        changeable = y.changeable q.changeable;
      }
    where
      simple_type : (t : ℕ) (r : ResolvedType) → TypeAt rs t r → is_simple env t ≡ true → (b : a.BaseType) × IsOfBase b r
      simple_type t r there h = go (base_of env t) refl h
        where
          go : (o : Option ℕ) → base_of env t ≡ o → is_some o ≡ true → (b : a.BaseType) × IsOfBase b r
          go None is h = absurd (true≢false (sym h))
          go (Some k) is h = let b : (c : a.BaseType) × IsOfBase c r × BaseAt rs k c = base_for G env rs v.tables t k r there is in (b.0, b.1)

  bound_as : (x : Identifier) (t : ℕ) (e : s.Expression) → (f : ForAs x t) → violations_of (bound env (Sound t) e) ≡ []
      → TypedExpression p (erase.expression e) × IsOfBase f.base (expression_type p.env (erase.expression e))
  bound_as x t e f h =
      let is : (u : ℕ) × (bound env (Sound t) e ≡ Sound u) = sound_has (bound env (Sound t) e) h in
      let parts : (u : ℕ) × (judge env mode.Value e ≡ Sound u) × (guard (agree env t u) C2 (first_token e) u ≡ Sound is.0) =
      then_sound (judge env mode.Value e) (λ u. guard (agree env t u) C2 (first_token e) u) is.0 is.1 in
      let m : ExpressionAs G env rs p (erase.expression e) parts.0 = judged_as G env rs p v e mode.Value parts.0 parts.1 in
      let agrees : Agree f.type (expression_type p.env (erase.expression e)) =
      agree_value f.type m.type _
      (agree_as G env rs v.tables t parts.0 f.type m.type f.there m.there (provided_sound (agree env t parts.0) C2 (first_token e) parts.0 is.0 parts.2).0) m.same in
      (m.typed, based f.type (expression_type p.env (erase.expression e)) f.base f.of agrees)
    where
      based : (r q : ResolvedType) (b : a.BaseType) → IsOfBase b r → Agree r q → IsOfBase b q
      based r q b h (inl g) = subst (λ c. IsOfBase c q) (sym (base_is b g.0 r h g.1)) g.2
      based r q b h (inr g) = absurd (true≢false (sym g.1 ∙ ap typed.is_structured h.is))

  -- ---- procedure statements

  abbrev Performed : a.Designator → s.Expressions → Type 0
  Performed z es = IsProcedureCall p (callee p.env z) z (erase.expressions es)

  user_performed : (z : a.Designator) (es : s.Expressions) (c : rules.Callee) → UserCalled G env rs p true z (count_of es) c → AllAs G env rs p c.wants es → Performed z es
  user_performed z es c k all =
      subst (λ o. IsProcedureCall p o z (erase.expressions es)) (sym k.named) (
        record {
          may = k.may;
          fit = heading_fits G env rs p v k.row k.callee_is.routine es k.meets k.count (subst (λ ws. AllAs G env rs p ws es) k.wants all);
        },
        no_result k.row.returns k.callee_is.routine.result k.kind k.meets.returns,
      )
    where
      no_result : (r : Returns) (o : Option a.Name) → rules.is_procedure r ≡ true → ReturnsAs G rs r o → o ≡ None
      no_result returns.Nothing None k h = refl
      no_result returns.Nothing (Some x) k h = absurd h
      no_result (returns.Value t) o k h = absurd (true≢false (sym k))
      no_result (returns.Broken w) o k h = absurd (true≢false (sym k))

  -- a standard procedure with one argument
  abbrev Standards : Text → s.Expressions → Type 0
  Standards x es = IsStandardStatement p (a.Plain x) (erase.expressions es)

  char_variable : (e : s.Expression) → ArgumentAs G env rs p want.CharVariable e → IsCharVariable p.env (erase.expression e)
  char_variable e m =
      let passed : argument env want.CharVariable e (Sound m.type) ≡ Sound m.type = passed_as G env rs p v want.CharVariable e m in
      let q : VariablePart G env rs p (erase.expression e) m.type = m.variable refl (also_none (c10_variable env e) _ m.type passed) in
      let base : is_base 2 (base_of env m.type) ≡ true =
      (provided_sound (is_base 2 (base_of env m.type)) C2 (first_token e) m.type m.type (also_sound (c10_variable env e) _ m.type passed)).0 in
      subst (IsCharVariable p.env) (sym q.is) (
        q.part.no_call,
        subst (IsOfBase a.Char) (sym q.part.place) (of_base G env rs v.tables m.type 2 q.part.type a.Char q.part.there v.tables.char base),
        q.part.changeable q.changeable,
      )

  in_entry : (is_monitor env.region.sort && is_in_entry env.region.part) ≡ true → IsInMonitorRoutine p.env × typed.IsInEntry p.env
  in_entry h =
      let parts : (is_monitor env.region.sort ≡ true) × (is_in_entry env.region.part ≡ true) = and_parts (is_monitor env.region.sort) _ h in
      let frame : (f : Frame) × (p.env.frame ≡ Some f) × (f.routine.entry ≡ true) = v.region.entry parts.1 in
      let monitor : p.env.system.sort ≡ a.Monitor = sym v.region.sort ∙ monitor_sort env.region.sort parts.0 in
      ((monitor, frame.0, frame.1), (monitor, frame.0, frame.1, frame.2))
    where
      monitor_sort : (y : Sort) → is_monitor y ≡ true → erase.sort_of y ≡ a.Monitor
      monitor_sort sort.Monitor h = refl
      monitor_sort sort.Process h = absurd (true≢false (sym h))
      monitor_sort sort.Class h = absurd (true≢false (sym h))

  process_sort : (y : Sort) → is_process y ≡ true → erase.sort_of y ≡ a.Process
  process_sort sort.Process h = refl
  process_sort sort.Monitor h = absurd (true≢false (sym h))
  process_sort sort.Class h = absurd (true≢false (sym h))

  module _ (es : s.Expressions) (x : Text) (c : rules.Callee) (all : AllAs G env rs p c.wants es) (count : length c.wants ≡ count_of es) where
    -- with the row of this name
    rowed : (w : Want) (g : Gives) → Some (record { wants = w ∷ []; gives = g }) ≡ Some c → ((e : s.Expression) → ArgumentAs G env rs p w e → Standards x (s.MoreExpressions e s.NoExpressions)) → Standards x es
    rowed w g h f =
        let row : rules.Callee = record { wants = w ∷ []; gives = g } in
        let same : row ≡ c = some_same (Some row) row c refl h in
        let is : (e : s.Expression) × (s.MoreExpressions e s.NoExpressions ≡ es) = single G env rs p v es (ap (λ z. length z.wants) same ∙ count) in
        let again : AllAs G env rs p row.wants es = subst (λ z. AllAs G env rs p z.wants es) (sym same) all in
        subst (Standards x) is.1 (f is.0 (subst (AllAs G env rs p (w ∷ [])) (sym is.1) again).0)

    standard_performed : (f : Standard) → standard_procedure f ≡ Some c → x ≡ standard_name f → is_allowed env.region f ≡ true → Standards x es
    standard_performed standard.Display h named allowed = rowed want.Simple gives.Nothing h (λ e m.
        let y : SimpleArgument G env rs p v e m.type = simple_argument G env rs p v e m in inl (named, (y.base, y.of)))
    standard_performed standard.Accept h named allowed = rowed want.CharVariable gives.Nothing h (λ e m. inr (inl (named, char_variable e m)))
    standard_performed standard.Delay h named allowed = rowed want.QueueVariable gives.Nothing h (λ e m.
        inr (inr (inl (named, queue_argument G env rs p v e m (in_monitor G env rs p v allowed)))))
    standard_performed standard.Continue h named allowed = rowed want.QueueVariable gives.Nothing h (λ e m.
        inr (inr (inr (named, queue_argument G env rs p v e m (in_entry allowed).0, (in_entry allowed).1))))
    standard_performed standard.Wait h named allowed =
        let row : rules.Callee = record { wants = []; gives = gives.Nothing } in
        let same : row ≡ c = some_same (Some row) row c refl h in
        subst (Standards x) (nothing_passed G env rs p v es (ap (λ z. length z.wants) same ∙ count))
        (named, sym v.region.sort ∙ process_sort env.region.sort allowed)
    standard_performed standard.Abs h named allowed = absurd (cc)
    standard_performed standard.Succ h named allowed = absurd (cc)
    standard_performed standard.Pred h named allowed = absurd (cc)
    standard_performed standard.Ord h named allowed = absurd (cc)
    standard_performed standard.Chr h named allowed = absurd (cc)
    standard_performed standard.Empty h named allowed = absurd (cc)
    standard_performed standard.Realtime h named allowed = absurd (cc)

  performed_as : (e : s.Designator) (es : s.Expressions) → call_statement env e es ≡ [] → TypedStatement p (a.Perform (erase.designator e) (erase.expressions es))
  performed_as e es h =
      let called : Judged rules.Callee = also (c2_indexed env mode.Value e) (then_judge (designate env e) (procedure_of env e (count_of es))) in
      let sound : (t : ℕ) × (both called (arguments env (wants_in env (designate env e) called) es) (result_of env) ≡ Sound t) =
      sound_has (both called (arguments env (wants_in env (designate env e) called) es) (result_of env)) (rest_empty (c2_c5_c8_named env mode.Value e) _ h) in
      let is : (c : rules.Callee) × (u : ℕ) × (called ≡ Sound c) × (arguments env (wants_in env (designate env e) called) es ≡ Sound u) × (result_of env c u ≡ Sound sound.0) =
      both_sound called (arguments env (wants_in env (designate env e) called) es) (result_of env) sound.0 sound.1 in
      let of : (e0 : Entity) × (designate env e ≡ Sound e0) × (procedure_of env e (count_of es) e0 ≡ Sound is.0) =
      then_sound (designate env e) (procedure_of env e (count_of es)) is.0 (also_sound (c2_indexed env mode.Value e) _ is.0 is.2) in
      let all : AllSound env is.0.wants es × FirstIs env is.0.wants es is.1 =
      arguments_sound env es is.0.wants is.1 (sym (ap (λ j. arguments env (wants_in env (designate env e) j) es) is.2) ∙ is.3) in
      let meets : AllAs G env rs p is.0.wants es × TypedExpressions p (erase.expressions es) = arguments_as G env rs p v es is.0.wants all.0 in
      (meets.1, go is.0 meets.0 (procedure_as G env rs p e (erase.designator e) (count_of es) of.0 is.0 (designated_as G env rs p v e of.0 of.1) of.2))
    where
      go : (c : rules.Callee) → AllAs G env rs p c.wants es → ProcedureCalled G env rs p (erase.designator e) (count_of es) c → Performed (erase.designator e) es
      go c all (inl k) = user_performed (erase.designator e) es c k all
      go c all (inr k) =
          subst (λ z. Performed z es) (sym k.is)
          (subst (λ o. IsProcedureCall p o (a.Plain k.name) (erase.expressions es)) (sym k.no_call)
          (standard_performed es k.name c all k.count k.which k.there k.named k.allowed))

  -- ---- all statements

  -- what is known of a sound selector
  selector_as : (e : s.Expression) → violations_of (c2_selector env e) ≡ []
      → (t : ℕ) × (c2_selector env e ≡ Sound t) × ExpressionAs G env rs p (erase.expression e) t × SimpleArgument G env rs p v e t
  selector_as e h =
      let is : (t : ℕ) × (c2_selector env e ≡ Sound t) = sound_has (c2_selector env e) h in
      let parts : (u : ℕ) × (judge env mode.Value e ≡ Sound u) × (guard (is_simple env u) C2 (first_token e) u ≡ Sound is.0) =
      then_sound (judge env mode.Value e) (λ t. guard (is_simple env t) C2 (first_token e) t) is.0 is.1 in
      let simple : (is_simple env parts.0 ≡ true) × (parts.0 ≡ is.0) = provided_sound (is_simple env parts.0) C2 (first_token e) parts.0 is.0 parts.2 in
      let m : ExpressionAs G env rs p (erase.expression e) is.0 = judged_as G env rs p v e mode.Value is.0 (parts.1 ∙ ap (λ u. Sound u) simple.1) in
      (is.0, is.1, m, simple_value G env rs p v e is.0 m (ap (is_simple env) (sym simple.1) ∙ simple.0))

  mutual
    pub statement_as : (x : s.Statement) → st.statement env x ≡ [] → TypedStatement p (erase.statement x)
    statement_as s.Empty h = tt
    statement_as (s.Assign e at x) h = assigned_as G env rs p v e at x h
    statement_as (s.Perform e es) h = performed_as e es h
    statement_as (s.Compound l) h = statements_as l h
    statement_as (s.If e x) h =
        let c : TypedExpression p (erase.expression e) × IsOfBase a.Boolean (expression_type p.env (erase.expression e)) = condition_as e (first_empty (violations_of (c2_condition env e)) _ h) in
        (c.0, c.1, statement_as x (rest_empty (violations_of (c2_condition env e)) _ h), tt)
    statement_as (s.IfElse e x y) h =
        let first : violations_of (c2_condition env e) ++ st.statement env x ≡ [] = first_empty _ (st.statement env y) h in
        let c : TypedExpression p (erase.expression e) × IsOfBase a.Boolean (expression_type p.env (erase.expression e)) = condition_as e (first_empty (violations_of (c2_condition env e)) _ first) in
        (c.0, c.1, statement_as x (rest_empty (violations_of (c2_condition env e)) _ first), statement_as y (rest_empty (violations_of (c2_condition env e) ++ st.statement env x) _ h))
    statement_as (s.Case e arms) h =
        let is : (t : ℕ) × (c2_selector env e ≡ Sound t) × ExpressionAs G env rs p (erase.expression e) t × SimpleArgument G env rs p v e t =
        selector_as e (first_empty (violations_of (c2_selector env e)) _ h) in
        let base : selector_base env (c2_selector env e) ≡ Some is.3.number = ap (selector_base env) is.1 ∙ is.3.is in (
          is.2.typed,
          is.3.base,
          is.3.of,
          arms_as arms is.3.base is.3.number [] is.3.there tt
              (sym (ap (λ o. st.arms env o [] arms) base) ∙ rest_empty (violations_of (c2_selector env e)) _ h),
        )
    statement_as (s.While e x) h =
        let c : TypedExpression p (erase.expression e) × IsOfBase a.Boolean (expression_type p.env (erase.expression e)) = condition_as e (first_empty (violations_of (c2_condition env e)) _ h) in
        (c.0, c.1, statement_as x (rest_empty (violations_of (c2_condition env e)) _ h))
    statement_as (s.Repeat l e) h =
        let c : TypedExpression p (erase.expression e) × IsOfBase a.Boolean (expression_type p.env (erase.expression e)) = condition_as e (rest_empty (st.statements env l) _ h) in
        (statements_as l (first_empty (st.statements env l) _ h), c.0, c.1)
    statement_as (s.For x from to until y) h =
        let j : Judged ℕ = for_variable env x in
        let three : violations_of j ++ violations_of (bound env j from) ++ violations_of (bound env j until) ≡ [] = first_empty _ (st.statement env y) h in
        let two' : violations_of j ++ violations_of (bound env j from) ≡ [] = first_empty _ (violations_of (bound env j until)) three in
        let is : (t : ℕ) × (j ≡ Sound t) = sound_has j (first_empty (violations_of j) _ two') in
        let f : ForAs x is.0 = for_as x is.0 is.1 in
        let one : TypedExpression p (erase.expression from) × IsOfBase f.base (expression_type p.env (erase.expression from)) =
        bound_as x is.0 from f (sym (ap (λ z. violations_of (bound env z from)) is.1) ∙ rest_empty (violations_of j) _ two') in
        let two : TypedExpression p (erase.expression until) × IsOfBase f.base (expression_type p.env (erase.expression until)) =
        bound_as x is.0 until f (sym (ap (λ z. violations_of (bound env z until)) is.1) ∙ rest_empty (violations_of j ++ violations_of (bound env j from)) _ three) in (
          f.variable,
          f.no_call,
          f.changeable,
          (f.base, subst (IsOfBase f.base) (sym f.place) f.of, one.1, two.1),
          one.0,
          two.0,
          statement_as y (rest_empty (violations_of j ++ violations_of (bound env j from) ++ violations_of (bound env j until)) _ h),
        )
    statement_as (s.Cycle l) h = statements_as l h
    statement_as (s.Init at is) h = items_as G env rs p v is (init_body G env rs p v at (first_empty (c12_init env at) _ h)) (rest_empty (c12_init env at) _ h)

    pub statements_as : (l : s.Statements) → st.statements env l ≡ [] → TypedStatement p (erase.statements l)
    statements_as s.NoStatements h = tt
    statements_as (s.MoreStatements x xs) h =
        (statement_as x (first_empty (st.statement env x) _ h), statements_as xs (rest_empty (st.statement env x) _ h))

    arms_as : (l : s.Arms) (b : a.BaseType) (k : ℕ) (seen : List Label) → BaseAt rs k b → AllOf G env rs p v k seen → st.arms env (Some k) seen l ≡ []
        → TypedArms p b (ordinals G env rs p v seen) (erase.arms l)
    arms_as s.NoArms b k seen base all h = tt
    arms_as (s.MoreArms cs x l) b k seen base all h =
        let one : Labelled = labels env (Some k) seen cs in
        let first : one.violations ++ st.statement env x ≡ [] = first_empty _ (st.arms env (Some k) one.seen l) h in
        let m : LabelsAs G env rs p v b k seen cs one.seen = labels_as G env rs p v cs b k seen base all (first_empty one.violations _ first) in (
          m.typed,
          statement_as x (rest_empty one.violations _ first),
          subst (λ o. TypedArms p b o (erase.arms l)) (sym m.seen_is) (arms_as l b k one.seen base m.of (rest_empty (one.violations ++ st.statement env x) _ h)),
        )
