-- Arguments that fit by the rules fit by the meaning, and what a call then returns.
use Rattle.std.proofs.Common.{◌≡◌, ◌⊎◌, inr, ℕ, Bool, true, false, List, [], ◌∷◌, Option, Some, None, if◌then◌else◌, nat_eq, eqb-true, slice_get, length, map, drop, refl, ap, sym, subst, ◌∙◌, arith, codes, bytes_eq}
use Rattle.std.proofs.lemmas.List.{length-drop, length-take-le}
use Rattle.cp_model.specs.Syntax as s
use Rattle.cp_model.specs.Abstract as a
use Rattle.cp_model.specs.Erase as erase
use Rattle.cp_model.specs.declared.rules.Rule.TheVariants.{C2, C10}
use Rattle.cp_model.specs.declared.rules.Access.{Access}
use Rattle.cp_model.specs.declared.rules.Returns.TheVariants as returns
use Rattle.cp_model.specs.declared.rules.RoutineRow.{RoutineRow}
use Rattle.cp_model.specs.declared.rules.ParameterRow.{ParameterRow}
use Rattle.cp_model.specs.declared.rules.Want.{Want}
use Rattle.cp_model.specs.declared.rules.Want.TheVariants as want
use Rattle.cp_model.specs.declared.rules.Mode.TheVariants as mode
use Rattle.cp_model.specs.RulesJudged.{Sound}
use Rattle.cp_model.specs.RulesEnvironment.{Environment, Text, agree, parameters_from}
use Rattle.cp_model.specs.RulesNames.{c10_variable, count_of, first_token, is_changeable, wants_of}
use Rattle.cp_model.specs.RulesExpressions.{argument, c10_by_reference, fits_type, judge, mode_of, parameter_mode}
use Rattle.cp_model.specs.Types.{GlobalScope, Queue, ResolvedType, base_of_type, full_range, named_type, or_no_type}
use Rattle.cp_model.specs.Declarations.{Variable, declarations}
use Rattle.cp_model.specs.Environments.{IsConstant, IsUnknown, IsVariable, Meaning, meaning}
use Rattle.cp_model.specs.Expressions.{name_of}
use Rattle.cp_model.specs.Calls.{Callee, callee}
use Rattle.cp_law_typing.specs.StaticTypes.{answer_type, called_type, expression_type, first_type, is_clock, operator_type, own_value_type, place_type, place_type_meant, standard_type, value_type_meant}
use Rattle.cp_law_typing.specs.Judgement.{Agree, AllFit, Fits, FitsBy, IsFunction, IsOfBase, IsVariableArgument, Place, TypedExpression}
use Rattle.cp_model.proofs.Judging.{also_none, also_sound, provided_sound}
use Rattle.cp_law_typing.proofs.TableMeanings.{HeadingAs, OptionalAt, ParametersAs, ReturnsAs, RoutineAs, TypeAt, Types}
use Rattle.cp_law_typing.proofs.Visible.{ExpressionAs, PartAs, Visible, agree_as, agree_value, full_of, some_same}

-- ---- expressions whose type is a queue

not_full : (b : a.BaseType) → full_range b ≡ Queue → ⊥
not_full b h = absurd (cc)

if_full : (b : Bool) (r q : ResolvedType) → (r ≡ Queue → ⊥) → (q ≡ Queue → ⊥) → (if b then r else q) ≡ Queue → ⊥
if_full true r q f g h = f h
if_full false r q f g h = g h

standard_full : (f : Text) (t : ResolvedType) → standard_type f t ≡ Queue → ⊥
standard_full f t =
    if_full (bytes_eq f (codes "abs")) _ _ (not_full a.Integer)
    (if_full (bytes_eq f (codes "succ")) _ _ (not_full (base_of_type t))
    (if_full (bytes_eq f (codes "pred")) _ _ (not_full (base_of_type t))
    (if_full (bytes_eq f (codes "ord")) _ _ (not_full a.Integer)
    (if_full (bytes_eq f (codes "empty")) _ _ (not_full a.Boolean) (not_full a.Char)))))

operator_full : (o : a.Operator) → operator_type o ≡ Queue → ⊥
operator_full a.Add h = absurd (cc)
operator_full a.Subtract h = absurd (cc)
operator_full a.Multiply h = absurd (cc)
operator_full a.Divide h = absurd (cc)
operator_full a.Modulo h = absurd (cc)
operator_full _ h = absurd (cc)

answer_full : (g : GlobalScope) (o : Option a.Name) → answer_type g o ≡ Queue → ⊥
answer_full g None h = absurd (cc)
answer_full g (Some t) h = absurd (cc)

no_callee : (g : GlobalScope) (o : Option Callee) (t : ResolvedType) → called_type g o t ≡ Queue → (o ≡ None) × (t ≡ Queue)
no_callee g None t h = (refl, h)
no_callee g (Some c) t h = absurd (answer_full g c.routine.result h)

value_queue : (m : Meaning) → value_type_meant m ≡ Queue → place_type_meant m ≡ Queue
value_queue (IsConstant b n) h = absurd (cc)
value_queue (IsVariable at v) h = h
value_queue IsUnknown h = absurd (cc)

module _ (p : Place) where
  pub record IsQueueUse (e : a.Expression) : Type 0 where
    pub designator : a.Designator
    pub is : e ≡ a.Use designator
    pub no_call : callee p.env designator ≡ None
    pub queue : place_type p.env designator ≡ Queue

  own_queue : (d : a.Designator) → own_value_type p.env d ≡ Queue → place_type p.env d ≡ Queue
  own_queue (a.Plain x) h = go (is_clock x) h
    where
      go : (b : Bool) → (if b then full_range a.Integer else value_type_meant (meaning p.env x)) ≡ Queue → place_type_meant (meaning p.env x) ≡ Queue
      go true h = absurd (cc)
      go false h = value_queue (meaning p.env x) h
  own_queue (a.Part d x) h = h
  own_queue (a.At d i) h = h

  pub queue_use : (e : a.Expression) → TypedExpression p e → expression_type p.env e ≡ Queue → IsQueueUse e
  queue_use (a.Literal n) k h = absurd (cc)
  queue_use (a.Letter n) k h = absurd (cc)
  queue_use (a.Use d) k h =
      let none : (callee p.env d ≡ None) × (own_value_type p.env d ≡ Queue) = no_callee p.env.globals (callee p.env d) (own_value_type p.env d) h in
      record { designator = d; is = refl; no_call = none.0; queue = own_queue d none.1 }
  queue_use (a.Call d es) k h =
      absurd (standard_full (name_of d) (first_type p.env es) (no_callee p.env.globals (callee p.env d) (standard_type (name_of d) (first_type p.env es)) h).1)
  queue_use (a.Not e) k h = absurd (cc)
  queue_use (a.Negative e) k h = absurd (cc)
  queue_use (a.Positive e) k h = let b : IsOfBase a.Integer (expression_type p.env e) = k.1 in absurd (cc b.is)
  queue_use (a.Binary o x y) k h = absurd (operator_full o h)
  queue_use (a.Known b n) k h = absurd (cc)

-- ---- arguments

module _ (G : GlobalScope → Type 0) (env : Environment) (rs : Types) (p : Place) where
  -- an argument that is a variable
  pub record VariablePart (e : a.Expression) (t : ℕ) : Type 0 where
    pub designator : a.Designator
    pub is : e ≡ a.Use designator
    pub access : Access
    pub part : PartAs G env rs p designator t access
    pub changeable : is_changeable access ≡ true

  pub record ArgumentAs (w : Want) (e : s.Expression) : Type 0 where
    pub type : ℕ
    pub passed : argument env w e (judge env (mode_of w) e) ≡ Sound type
    pub judged : judge env (mode_of w) e ≡ Sound type
    pub meets : ExpressionAs G env rs p (erase.expression e) type
    pub variable : mode_of w ≡ mode.Variable → c10_variable env e ≡ [] → VariablePart (erase.expression e) type

  abbrev pub AllAs : List Want → s.Expressions → Type 0
  AllAs ws s.NoExpressions = Unit {0}
  AllAs [] (s.MoreExpressions e es) = AllAs [] es
  AllAs (w ∷ ws) (s.MoreExpressions e es) = ArgumentAs w e × AllAs ws es

  module _ (v : Visible G env rs p) where
    -- what is passed for an argument that has already been judged
    passed_again : (w : Want) (e : s.Expression) (m : ArgumentAs w e) → argument env w e (Sound m.type) ≡ Sound m.type
    passed_again w e m = sym (ap (argument env w e) m.judged) ∙ m.passed

    pub optional_same : (o : Option ℕ) (r : ResolvedType) → OptionalAt rs o r → (t : ℕ) × (o ≡ Some t) × TypeAt rs t r
    optional_same None r h = absurd h
    optional_same (Some t) r h = (t, refl, h)

    -- a variable of the parameter's very type, or a value that agrees
    pub fit_one : (q : ParameterRow) (x : Variable) (e : s.Expression) → q.by_reference ≡ x.by_reference → OptionalAt rs q.of x.type → ArgumentAs (want.Parameter q) e
        → Fits p.env x (erase.expression e)
    fit_one q x e same there m = go q.by_reference refl
      where
        of : (t : ℕ) × (q.of ≡ Some t) × TypeAt rs t x.type
        of = optional_same q.of x.type there

        passed : argument env (want.Parameter q) e (Sound m.type) ≡ Sound m.type
        passed = passed_again (want.Parameter q) e m

        fits : fits_type env q.by_reference (Some of.0) e m.type ≡ Sound m.type
        fits = ap (λ o. fits_type env q.by_reference o e m.type) (sym of.1) ∙ also_sound (c10_by_reference env q.by_reference e) _ m.type passed

        by_reference : q.by_reference ≡ true → IsVariableArgument p.env (erase.expression e) x.type
        by_reference b =
            let variable : c10_variable env e ≡ [] =
            sym (ap (λ z. c10_by_reference env z e) b) ∙ also_none (c10_by_reference env q.by_reference e) _ m.type passed in
            let y : VariablePart (erase.expression e) m.type = m.variable (ap parameter_mode b) variable in
            let very : nat_eq m.type of.0 ≡ true =
            (provided_sound (nat_eq m.type of.0) C10 (first_token e) m.type m.type (sym (ap (λ z. fits_type env z (Some of.0) e m.type) b) ∙ fits)).0 in
            let type : y.part.type ≡ x.type =
            some_same (slice_get rs m.type) y.part.type x.type y.part.there (ap (slice_get rs) (eqb-true m.type of.0 very) ∙ of.2) in
            subst (λ z. IsVariableArgument p.env z x.type) (sym y.is) (y.part.no_call, y.part.place ∙ type, y.part.changeable y.changeable)

        by_value : q.by_reference ≡ false → Agree x.type (expression_type p.env (erase.expression e))
        by_value b =
            let same_types : agree env of.0 m.type ≡ true =
            (provided_sound (agree env of.0 m.type) C2 (first_token e) m.type m.type (sym (ap (λ z. fits_type env z (Some of.0) e m.type) b) ∙ fits)).0 in
            agree_value x.type m.meets.type _ (agree_as G env rs v.tables of.0 m.type x.type m.meets.type of.2 m.meets.there same_types) m.meets.same

        go : (b : Bool) → q.by_reference ≡ b → Fits p.env x (erase.expression e)
        go true is = subst (λ z. FitsBy z p.env x.type (erase.expression e)) (sym is ∙ same) (by_reference is)
        go false is = subst (λ z. FitsBy z p.env x.type (erase.expression e)) (sym is ∙ same) (by_value is)

    -- as many arguments as parameters
    pub fit_all : (qs : List ParameterRow) (xs : List (Text × Variable)) (es : s.Expressions) → ParametersAs rs qs xs → length qs ≡ count_of es
        → AllAs (map (λ q. want.Parameter q) qs) es → AllFit p.env xs (erase.expressions es)
    fit_all [] [] s.NoExpressions h n m = tt
    fit_all [] [] (s.MoreExpressions e es) h n m = absurd (omega (arith, n))
    fit_all (q ∷ qs) (x ∷ xs) s.NoExpressions h n m = absurd (omega (arith, n))
    fit_all (q ∷ qs) (x ∷ xs) (s.MoreExpressions e es) h n m =
        (fit_one q x.1 e h.0 h.1 m.0, fit_all qs xs es h.2 (omega (arith, n)) m.1)
    fit_all [] (x ∷ xs) es h n m = absurd h
    fit_all (q ∷ qs) [] es h n m = absurd h

    pub heading_fits : (row : RoutineRow) (q : a.Routine) (es : s.Expressions) → RoutineAs G env rs row q → row.count ≡ count_of es → AllAs (wants_of env row) es
        → AllFit p.env (declarations p.env.globals q.parameters) (erase.expressions es)
    heading_fits row q es meets n m =
        let h : HeadingAs G env rs row.first row.count q.parameters = meets.heading in
        let rows : length (parameters_from env row.first row.count) ≡ row.count =
        length-take-le row.count (drop row.first env.parameters) (omega (arith, h.within, length-drop row.first env.parameters)) in
        subst (λ l. AllFit p.env l (erase.expressions es)) (sym (h.declares p.env.globals v.scope))
        (fit_all (parameters_from env row.first row.count) h.variables es h.rows (rows ∙ n) m)

    -- ---- what calls give

    -- the result of a function has the base of its declared type
    pub answer_as : (row : RoutineRow) (q : a.Routine) (t : ℕ) → RoutineAs G env rs row q → row.returns ≡ returns.Value t
        → IsFunction q × ((r : ResolvedType) × TypeAt rs t r × ((r ≡ answer_type p.env.globals q.result) ⊎ ((b : a.BaseType) × IsOfBase b r × IsOfBase b (answer_type p.env.globals q.result))))
    answer_as row q t meets is = go q.result refl (subst (λ z. ReturnsAs G rs z q.result) is meets.returns)
      where
        go : (o : Option a.Name) → q.result ≡ o → ReturnsAs G rs (returns.Value t) o
            → IsFunction q × ((r : ResolvedType) × TypeAt rs t r × ((r ≡ answer_type p.env.globals q.result) ⊎ ((b : a.BaseType) × IsOfBase b r × IsOfBase b (answer_type p.env.globals q.result))))
        go None e h = absurd h
        go (Some x) e h =
            let named : named_type p.env.globals x ≡ h.0 = ap or_no_type (h.2 p.env.globals v.scope) in
            let base : base_of_type h.0 ≡ h.3.0 = ap base_of_type h.3.1.is in
            let answer : answer_type p.env.globals q.result ≡ full_range h.3.0 = ap (answer_type p.env.globals) e ∙ ap (λ r. full_range (base_of_type r)) named ∙ ap full_range base in
            ((x, e), (h.0, h.1, inr (h.3.0, h.3.1, subst (IsOfBase h.3.0) (sym answer) (full_of h.3.0))))
