-- Calls of standard functions: their arguments, and what they return.
use Rattle.std.proofs.Common.{◌≡◌, ◌⊎◌, inl, inr, ℕ, true, ◌&&◌, [], ◌∷◌, Option, Some, None, nat_eq, eqb-true, slice_get, length, refl, ap, sym, subst, ◌∙◌, arith, codes, is_some}
use Rattle.std.proofs.lemmas.Bool.{true≢false, and_parts}
use Rattle.std.specs.Option.{unwrap_or}
use Rattle.cp_model.specs.Syntax as s
use Rattle.cp_model.specs.Abstract as a
use Rattle.cp_model.specs.Erase as erase
use Rattle.cp_model.specs.declared.tree.Sort.{Sort}
use Rattle.cp_model.specs.declared.tree.Sort.TheVariants as sort
use Rattle.cp_model.specs.declared.rules.Rule.TheVariants.{C2}
use Rattle.cp_model.specs.declared.rules.Standard.{Standard}
use Rattle.cp_model.specs.declared.rules.Standard.TheVariants as standard
use Rattle.cp_model.specs.declared.rules.Want.{Want}
use Rattle.cp_model.specs.declared.rules.Want.TheVariants as want
use Rattle.cp_model.specs.declared.rules.Gives.{Gives}
use Rattle.cp_model.specs.declared.rules.Gives.TheVariants as gives
use Rattle.cp_model.specs.declared.rules.Mode.TheVariants as mode
use Rattle.cp_model.specs.RulesJudged.{Sound}
use Rattle.cp_model.specs.RulesEnvironment.{Environment, Text, base_of, boolean, integer, is_allowed, is_base, is_in_routine, is_monitor, is_simple, queue}
use Rattle.cp_model.specs.RulesNames.{array_in, before_selectors, c10_designator, c10_variable, c2_array, c2_index, c2_indexed, c8_named, count_of, first_name, first_token, function_alone, function_of, given_type, is_changeable, is_procedure, is_used_as_component, is_variable, last_name, member_among, member_named, member_of, standard_function, value_of}
use Rattle.cp_model.specs.RulesNames as rules
use Rattle.cp_model.specs.RulesExpressions.{argument, judge, mode_of}
use Rattle.cp_model.specs.Types.{GlobalScope, Queue, ResolvedType, base_of_type, full_range}
use Rattle.cp_model.specs.Environments.{Frame}
use Rattle.cp_model.specs.Calls.{callee}
use Rattle.cp_law_typing.specs.StaticTypes.{called_type, expression_type, own_value_type, standard_type}
use Rattle.cp_law_typing.specs.Judgement as typed
use Rattle.cp_law_typing.specs.Judgement.{IsUsedAs, AllFit, Called, IsFunction, IsFunctionCall, IsOfBase, IsQueueArgument, IsSimple, OperandsFit, Place, StandardFits, TypedExpression, TypedExpressions, TypedUse, IsInMonitorRoutine}
use Rattle.cp_model.proofs.Judging.{provided_sound, sound_same}
use Rattle.cp_law_typing.proofs.TableMeanings.{BaseAt, TypeAt, Types, standard_name}
use Rattle.cp_law_typing.proofs.Visible.{ExpressionAs, Visible, base_for, of_base, same_base, some_same}
use Rattle.cp_law_typing.proofs.Calls.{FirstIs}
use Rattle.cp_law_typing.proofs.Arguments.{AllAs, ArgumentAs, IsQueueUse, queue_use}

module _ (G : GlobalScope → Type 0) (env : Environment) (rs : Types) (p : Place) (v : Visible G env rs p) where
  -- ---- what the arguments of standard functions are

  pub passed_as : (w : Want) (e : s.Expression) (m : ArgumentAs G env rs p w e) → argument env w e (Sound m.type) ≡ Sound m.type
  passed_as w e m = sym (ap (argument env w e) m.judged) ∙ m.passed

  pub integer_argument : (e : s.Expression) → ArgumentAs G env rs p want.Integer e → IsOfBase a.Integer (expression_type p.env (erase.expression e))
  integer_argument e m =
      same_base a.Integer m.meets.type _ m.meets.same (of_base G env rs v.tables m.type integer m.meets.type a.Integer m.meets.there v.tables.integer
      (provided_sound (is_base integer (base_of env m.type)) C2 (first_token e) m.type m.type (passed_as want.Integer e m)).0)

  -- a simple value, also by the base of the rules
  pub record SimpleArgument (e : s.Expression) (t : ℕ) : Type 0 where
    pub number : ℕ
    pub is : base_of env t ≡ Some number
    pub base : a.BaseType
    pub there : BaseAt rs number base
    pub of : IsOfBase base (expression_type p.env (erase.expression e))

  pub simple_value : (e : s.Expression) (t : ℕ) → ExpressionAs G env rs p (erase.expression e) t → is_simple env t ≡ true → SimpleArgument e t
  simple_value e t m h = go (base_of env t) refl h
    where
      go : (o : Option ℕ) → base_of env t ≡ o → is_some o ≡ true → SimpleArgument e t
      go None e h = absurd (true≢false (sym h))
      go (Some k) is h =
          let b : (c : a.BaseType) × IsOfBase c m.type × BaseAt rs k c = base_for G env rs v.tables t k m.type m.there is in
          record { number = k; is = is; base = b.0; there = b.2; of = same_base b.0 m.type _ m.same b.1 }

  pub simple_argument : (e : s.Expression) (m : ArgumentAs G env rs p want.Simple e) → SimpleArgument e m.type
  simple_argument e m =
      simple_value e m.type m.meets (provided_sound (is_simple env m.type) C2 (first_token e) m.type m.type (passed_as want.Simple e m)).0

  pub monitor_sort : (y : Sort) → is_monitor y ≡ true → erase.sort_of y ≡ a.Monitor
  monitor_sort sort.Monitor h = refl
  monitor_sort sort.Process h = absurd (true≢false (sym h))
  monitor_sort sort.Class h = absurd (true≢false (sym h))

  pub in_monitor : (is_monitor env.region.sort && is_in_routine env.region.part) ≡ true → IsInMonitorRoutine p.env
  in_monitor h =
      let parts : (is_monitor env.region.sort ≡ true) × (is_in_routine env.region.part ≡ true) = and_parts (is_monitor env.region.sort) _ h in
      let frame : (f : Frame) × (p.env.frame ≡ Some f) = v.region.routine parts.1 in
      (sym v.region.sort ∙ monitor_sort env.region.sort parts.0, frame.0, frame.1)

  pub queue_argument : (e : s.Expression) → ArgumentAs G env rs p want.QueueVariable e → IsInMonitorRoutine p.env → IsQueueArgument p.env (erase.expression e)
  queue_argument e m here =
      let number : nat_eq m.type queue ≡ true = (provided_sound (nat_eq m.type queue) C2 (first_token e) m.type m.type (passed_as want.QueueVariable e m)).0 in
      let type : m.meets.type ≡ Queue = some_same (slice_get rs m.type) m.meets.type Queue m.meets.there (ap (slice_get rs) (eqb-true m.type queue number) ∙ v.tables.queue) in
      let used : IsQueueUse p (erase.expression e) = queue_use p (erase.expression e) m.meets.typed (sym (same_queue m.meets.type (expression_type p.env (erase.expression e)) type m.meets.same) ∙ type) in
      subst (IsQueueArgument p.env) (sym used.is) (used.no_call, used.queue, here)
    where
      same_queue : (r q : ResolvedType) → r ≡ Queue → (r ≡ q) ⊎ ((b : a.BaseType) × IsOfBase b r × IsOfBase b q) → r ≡ q
      same_queue r q is (inl h) = h
      same_queue r q is (inr h) = let b : IsOfBase h.0 r = h.1 in absurd (cc b.is)

  -- ---- a standard function

  -- what is known of a call's arguments, and of the type of its result
  abbrev pub CallKnown : s.Expressions → ℕ → ℕ → rules.Callee → Type 0
  CallKnown es u t c = AllAs G env rs p c.wants es × FirstIs env c.wants es u × (given_type env u c.gives ≡ t) × (length c.wants ≡ count_of es)

  abbrev pub Function : Text → s.Expressions → ℕ → Type 0
  Function x es t = ExpressionAs G env rs p (erase.call_or_name (a.Plain x) (erase.expressions es)) t

  -- a call of one argument
  pub standard_call : (x : Text) (f : typed.StandardFunction) (e : s.Expression) (t : ℕ) (r : ResolvedType) → x ≡ typed.function_name f → callee p.env (a.Plain x) ≡ None
      → TypedExpression p (erase.expression e) → StandardFits p.env f (erase.expression e) → TypeAt rs t r
      → r ≡ standard_type x (expression_type p.env (erase.expression e)) → Function x (s.MoreExpressions e s.NoExpressions) t
  standard_call x f e t r named no_call meets fits there is = record {
    typed = (
      (meets, tt),
      subst (λ o. IsFunctionCall p o (a.Plain x) (a.MoreExpressions (erase.expression e) a.NoExpression)) (sym no_call) (f, named, fits),
    );
    type = r;
    there = there;
    same = inl (is ∙ sym (ap (λ o. called_type p.env.globals o (standard_type x (expression_type p.env (erase.expression e)))) no_call));
  }

  pub type_is : (x : Text) (y : Text) (r q : ResolvedType) → x ≡ y → standard_type y q ≡ r → r ≡ standard_type x q
  type_is x y r q same h = sym h ∙ ap (λ z. standard_type z q) (sym same)

  -- the base type of the argument
  pub standard_call_kept : (x y : Text) (f : typed.StandardFunction) (e : s.Expression) (u t : ℕ) → x ≡ y → y ≡ typed.function_name f → callee p.env (a.Plain x) ≡ None
      → ((q : ResolvedType) → standard_type y q ≡ full_range (base_of_type q))
      → (m : ArgumentAs G env rs p want.Simple e) → StandardFits p.env f (erase.expression e) → argument env want.Simple e (judge env mode.Value e) ≡ Sound u
      → given_type env u gives.ArgumentBase ≡ t → Function x (s.MoreExpressions e s.NoExpressions) t
  standard_call_kept x y f e u t same named no_call widens m fits first is =
      let k : SimpleArgument e m.type = simple_argument e m in
      let type : m.type ≡ u = sound_same m.type u (sym m.passed ∙ first) in
      let number : k.number ≡ t = sym (ap (λ o. unwrap_or o m.type) k.is) ∙ ap (λ z. given_type env z gives.ArgumentBase) type ∙ is in
      standard_call x f e t (full_range k.base) (same ∙ named) no_call m.meets.typed fits (subst (λ n. TypeAt rs n (full_range k.base)) number k.there)
      (type_is x y (full_range k.base) (expression_type p.env (erase.expression e)) same
      (widens (expression_type p.env (erase.expression e)) ∙ ap full_range (ap base_of_type k.of.is)))

  pub single : (es : s.Expressions) → 1 ≡ count_of es → (e : s.Expression) × (s.MoreExpressions e s.NoExpressions ≡ es)
  single s.NoExpressions h = absurd (omega (arith, h))
  single (s.MoreExpressions e s.NoExpressions) h = (e, refl)
  single (s.MoreExpressions e (s.MoreExpressions x es)) h = absurd (omega (arith, h))

  pub nothing_passed : (es : s.Expressions) → 0 ≡ count_of es → s.NoExpressions ≡ es
  nothing_passed s.NoExpressions h = refl
  nothing_passed (s.MoreExpressions e es) h = absurd (omega (arith, h))

  pub by_single : (w : Want) (g : Gives) (es : s.Expressions) (x : Text) (u t : ℕ)
      → ((e : s.Expression) → ArgumentAs G env rs p w e → argument env w e (judge env (mode_of w) e) ≡ Sound u → given_type env u g ≡ t → Function x (s.MoreExpressions e s.NoExpressions) t)
      → CallKnown es u t (record { wants = w ∷ []; gives = g }) → Function x es t
  by_single w g es x u t f k =
      let is : (e : s.Expression) × (s.MoreExpressions e s.NoExpressions ≡ es) = single es k.3 in
      subst (λ z. CallKnown z u t (record { wants = w ∷ []; gives = g }) → Function x z t) is.1 (λ j. f is.0 j.0.0 j.1 j.2) k

  pub clock_done : (x : Text) (u t : ℕ) → x ≡ codes "realtime" → callee p.env (a.Plain x) ≡ None → integer ≡ t → Function x s.NoExpressions t
  clock_done x u t named no_call number =
      let clock : own_value_type p.env (a.Plain x) ≡ full_range a.Integer = ap (λ z. own_value_type p.env (a.Plain z)) named in
      record {
        typed = subst (λ o. IsUsedAs p o (a.Plain x)) (sym no_call) (inl named);
        type = full_range a.Integer;
        there = subst (λ n. TypeAt rs n (full_range a.Integer)) number v.tables.integer;
        same = inl (sym clock ∙ sym (ap (λ o. called_type p.env.globals o (own_value_type p.env (a.Plain x))) no_call));
      }

  module _ (es : s.Expressions) (x : Text) (c : rules.Callee) (u t : ℕ) (no_call : callee p.env (a.Plain x) ≡ None) (k : CallKnown es u t c) where
    -- with the row of this name
    rowed : (z : rules.Callee) → Some z ≡ Some c → (CallKnown es u t z → Function x es t) → Function x es t
    rowed z h f =
        let same : z ≡ c = some_same (Some z) z c refl h in
        f (subst (CallKnown es u t) (sym same) k)

    pub standard_done : (f : Standard) → standard_function f ≡ Some c → x ≡ standard_name f → is_allowed env.region f ≡ true → Function x es t
    standard_done standard.Abs h named allowed = rowed _ h (by_single want.Integer (gives.Value integer) es x u t (λ e m first is.
        standard_call x typed.Abs e t (full_range a.Integer) named no_call m.meets.typed (integer_argument e m) (subst (λ n. TypeAt rs n (full_range a.Integer)) is v.tables.integer)
        (type_is x (codes "abs") (full_range a.Integer) (expression_type p.env (erase.expression e)) named refl)))
    standard_done standard.Ord h named allowed = rowed _ h (by_single want.Simple (gives.Value integer) es x u t (λ e m first is.
        let y : SimpleArgument e m.type = simple_argument e m in
        standard_call x typed.Ord e t (full_range a.Integer) named no_call m.meets.typed (y.base, y.of) (subst (λ n. TypeAt rs n (full_range a.Integer)) is v.tables.integer)
        (type_is x (codes "ord") (full_range a.Integer) (expression_type p.env (erase.expression e)) named refl)))
    standard_done standard.Chr h named allowed = rowed _ h (by_single want.Integer (gives.Value 2) es x u t (λ e m first is.
        standard_call x typed.Chr e t (full_range a.Char) named no_call m.meets.typed (integer_argument e m) (subst (λ n. TypeAt rs n (full_range a.Char)) is v.tables.char)
        (type_is x (codes "chr") (full_range a.Char) (expression_type p.env (erase.expression e)) named refl)))
    standard_done standard.Succ h named allowed = rowed _ h (by_single want.Simple gives.ArgumentBase es x u t (λ e m first is.
        let y : SimpleArgument e m.type = simple_argument e m in
        standard_call_kept x (codes "succ") typed.Succ e u t named refl no_call (λ q. refl) m (y.base, y.of) first is))
    standard_done standard.Pred h named allowed = rowed _ h (by_single want.Simple gives.ArgumentBase es x u t (λ e m first is.
        let y : SimpleArgument e m.type = simple_argument e m in
        standard_call_kept x (codes "pred") typed.Pred e u t named refl no_call (λ q. refl) m (y.base, y.of) first is))
    standard_done standard.Empty h named allowed = rowed _ h (by_single want.QueueVariable (gives.Value boolean) es x u t (λ e m first is.
        standard_call x typed.Empty e t (full_range a.Boolean) named no_call m.meets.typed (queue_argument e m (in_monitor allowed))
        (subst (λ n. TypeAt rs n (full_range a.Boolean)) is v.tables.boolean)
        (type_is x (codes "empty") (full_range a.Boolean) (expression_type p.env (erase.expression e)) named refl)))
    standard_done standard.Realtime h named allowed = rowed _ h (λ j.
        subst (λ z. Function x z t) (nothing_passed es j.3) (clock_done x u t named no_call j.2))
    standard_done standard.Delay h named allowed = absurd (cc)
    standard_done standard.Continue h named allowed = absurd (cc)
    standard_done standard.Display h named allowed = absurd (cc)
    standard_done standard.Accept h named allowed = absurd (cc)
    standard_done standard.Wait h named allowed = absurd (cc)
