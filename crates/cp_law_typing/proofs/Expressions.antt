-- Expressions in which nothing is broken are typed, with the types that the rules give them.
use Rattle.std.proofs.Common.{◌≡◌, ◌⊎◌, inl, inr, ℕ, ℤ, true, false, ◌&&◌, List, [], ◌∷◌, Option, Some, None, if◌then◌else◌, refl, ap, sym, subst, ◌∙◌}
use Rattle.std.proofs.lemmas.Bool.{true≢false, and_parts}
use Rattle.cp_model.specs.Syntax as s
use Rattle.cp_model.specs.Abstract as a
use Rattle.cp_model.specs.Erase as erase
use Rattle.cp_model.specs.declared.tree.Operator.{Operator}
use Rattle.cp_model.specs.declared.tree.Operator.TheVariants as operator
use Rattle.cp_model.specs.declared.tree.Sign.{Sign}
use Rattle.cp_model.specs.declared.tree.Sign.TheVariants as sign
use Rattle.cp_model.specs.declared.rules.Rule.TheVariants.{C2}
use Rattle.cp_model.specs.declared.rules.Access.{Access}
use Rattle.cp_model.specs.declared.rules.Entity.{Entity}
use Rattle.cp_model.specs.declared.rules.Entity.TheVariants as entity
use Rattle.cp_model.specs.declared.rules.Returns.{Returns}
use Rattle.cp_model.specs.declared.rules.Returns.TheVariants as returns
use Rattle.cp_model.specs.declared.rules.Want.{Want}
use Rattle.cp_model.specs.declared.rules.Gives.{Gives}
use Rattle.cp_model.specs.declared.rules.Gives.TheVariants as gives
use Rattle.cp_model.specs.declared.rules.Mode.{Mode}
use Rattle.cp_model.specs.declared.rules.Mode.TheVariants as mode
use Rattle.cp_model.specs.declared.rules.ArrayPart.{ArrayPart}
use Rattle.cp_model.specs.RulesJudged.{Judged, Sound, also, both, then_judge}
use Rattle.cp_model.specs.RulesEnvironment.{Environment, Text, base_of, boolean, c1_named, c4_c9_named, integer, is_base}
use Rattle.cp_model.specs.RulesNames.{array_in, before_selectors, c10_designator, c10_variable, c2_array, c2_index, c2_indexed, c8_named, count_of, first_name, first_token, function_alone, function_of, given_type, is_changeable, is_procedure, is_used_as_component, is_variable, last_name, member_among, member_named, member_of, standard_function, value_of, c2_c5_c8_named, sort_rule}
use Rattle.cp_model.specs.RulesNames as rules
use Rattle.cp_model.specs.RulesExpressions.{arguments, c2_operand, c2_operands, designate, first_operand, apply_indices, judge, mode_of, operands_fit, result_of, select, apply_selectors, signature, wants_in}
use Rattle.cp_model.specs.Types.{GlobalScope, ResolvedType, full_range}
use Rattle.cp_model.specs.Environments.{meaning}
use Rattle.cp_model.specs.Expressions.{name_of}
use Rattle.cp_law_typing.specs.StaticTypes.{answer_type, called_type, expression_type, own_value_type, standard_type, value_type_meant}
use Rattle.cp_law_typing.specs.Judgement.{IsUsedAs, Called, IsFunction, IsFunctionCall, IsOfBase, Place, TypedExpressions}
use Rattle.cp_model.proofs.Judging.{also_sound, both_sound, provided_sound, sound_same, then_sound}
use Rattle.cp_law_typing.proofs.TableMeanings.{BaseAt, TypeAt, Types}
use Rattle.cp_law_typing.proofs.Visible.{ConstantHere, DesignatorAs, ExpressionAs, PartAs, Visible, base_for, full_of, of_base, same_base}
use Rattle.cp_law_typing.proofs.Designators.{first_as, index_as, member_as}
use Rattle.cp_law_typing.proofs.Calls.{AllSound, FirstIs, FunctionCalled, GivesAs, UserCalled, argument_same, arguments_sound, function_as}
use Rattle.cp_law_typing.proofs.Arguments.{AllAs, VariablePart, answer_as, heading_fits}
use Rattle.cp_law_typing.proofs.StandardFunctions.{standard_done}
use Rattle.cp_law_typing.proofs.ChangeableParts.{root_part, varied_of}

module _ (G : GlobalScope → Type 0) (env : Environment) (rs : Types) (p : Place) (v : Visible G env rs p) where
  -- ---- a function of the text

  user_done : (d : a.Designator) (es : s.Expressions) (c : rules.Callee) (u t : ℕ) → UserCalled G env rs p false d (count_of es) c → AllAs G env rs p c.wants es
      → TypedExpressions p (erase.expressions es) → given_type env u c.gives ≡ t → ExpressionAs G env rs p (erase.call_or_name d (erase.expressions es)) t
  user_done d es c u t k all meets is = go k.row.returns c.gives refl refl k.answers
    where
      called : Called p k.callee_is (erase.expressions es)
      called = record {
        may = k.may;
        fit = heading_fits G env rs p v k.row k.callee_is.routine es k.meets k.count (subst (λ ws. AllAs G env rs p ws es) k.wants all);
      }

      done : (es : a.Expressions) → TypedExpressions p es → Called p k.callee_is es → (n : ℕ)
          → IsFunction k.callee_is.routine
          × ((r : ResolvedType) × TypeAt rs n r
          × ((r ≡ answer_type p.env.globals k.callee_is.routine.result) ⊎ ((b : a.BaseType) × IsOfBase b r × IsOfBase b (answer_type p.env.globals k.callee_is.routine.result))))
          → ExpressionAs G env rs p (erase.call_or_name d es) n
      done a.NoExpression meets called n y = record {
        typed = subst (λ o. IsUsedAs p o d) (sym k.named) (called, y.0);
        type = y.1.0;
        there = y.1.1;
        same = subst (λ q. (y.1.0 ≡ q) ⊎ ((b : a.BaseType) × IsOfBase b y.1.0 × IsOfBase b q))
            (sym (ap (λ o. called_type p.env.globals o (own_value_type p.env d)) k.named)) y.1.2;
      }
      done (a.MoreExpressions x xs) meets called n y = record {
        typed = (meets, subst (λ o. IsFunctionCall p o d (a.MoreExpressions x xs)) (sym k.named) (called, y.0));
        type = y.1.0;
        there = y.1.1;
        same = subst (λ q. (y.1.0 ≡ q) ⊎ ((b : a.BaseType) × IsOfBase b y.1.0 × IsOfBase b q))
            (sym (ap (λ o. called_type p.env.globals o (standard_type (name_of d) (expression_type p.env x))) k.named)) y.1.2;
      }

      go : (r : Returns) (g : Gives) → k.row.returns ≡ r → c.gives ≡ g → GivesAs G env rs p r g → ExpressionAs G env rs p (erase.call_or_name d (erase.expressions es)) t
      go (returns.Value n) (gives.Value m) r_is g_is same =
          done (erase.expressions es) meets called t
          (answer_as G env rs p v k.row k.callee_is.routine t k.meets
          (r_is ∙ ap (λ z. returns.Value z) (same ∙ ap (given_type env u) (sym g_is) ∙ is)))
      go returns.Nothing g r_is g_is same = absurd (true≢false (sym (ap is_procedure r_is) ∙ k.kind))
      go _ _ r_is g_is same = absurd same

  -- ---- calls

  -- a function that is called, with its arguments
  call_done : (m : Mode) (d : s.Designator) (z : a.Designator) (e : Entity) (c : rules.Callee) (es : s.Expressions) (u t : ℕ) → DesignatorAs G env rs p z e
      → function_of env m d (count_of es) e ≡ Sound c → AllAs G env rs p c.wants es → TypedExpressions p (erase.expressions es) → FirstIs env c.wants es u
      → given_type env u c.gives ≡ t → ExpressionAs G env rs p (erase.call_or_name z (erase.expressions es)) t
  call_done m d z e c es u t as_z sound all meets first is = go (function_as G env rs p m d z (count_of es) e c as_z sound)
    where
      go : FunctionCalled G env rs p z (count_of es) c → ExpressionAs G env rs p (erase.call_or_name z (erase.expressions es)) t
      go (inl k) = user_done z es c u t k all meets is
      go (inr k) =
          subst (λ y. ExpressionAs G env rs p (erase.call_or_name y (erase.expressions es)) t) (sym k.is)
          (standard_done G env rs p v es k.name c u t k.no_call (all, first, is, k.count) k.which k.there k.named k.allowed)

  -- ---- names as values

  use_of : (d : a.Designator) (t : ℕ) (acc : Access) → PartAs G env rs p d t acc → ExpressionAs G env rs p (a.Use d) t
  use_of d t acc q = record {
    typed = subst (λ o. IsUsedAs p o d) (sym q.no_call) q.typed_use;
    type = q.type;
    there = q.there;
    same = inl (sym (ap (λ o. called_type p.env.globals o (own_value_type p.env d)) q.no_call ∙ q.value));
  }

  constant_of : (x : Text) (base t : ℕ) (n : ℤ) → ConstantHere G env rs p x base n → base ≡ t → ExpressionAs G env rs p (a.Use (a.Plain x)) t
  constant_of x base t n c is =
      let value : own_value_type p.env (a.Plain x) ≡ full_range c.of =
      ap (λ b. if b then full_range a.Integer else value_type_meant (meaning p.env x)) c.no_clock ∙ ap value_type_meant c.meant in
      record {
        typed = subst (λ o. IsUsedAs p o (a.Plain x)) (sym c.no_call) (inr (inl (c.no_clock, (c.of, n, c.meant))));
        type = full_range c.of;
        there = subst (λ k. TypeAt rs k (full_range c.of)) is c.there;
        same = inl (sym (ap (λ o. called_type p.env.globals o (own_value_type p.env (a.Plain x))) c.no_call ∙ value));
      }

  function_alone_of : (m : Mode) (d : s.Designator) (z : a.Designator) (e : Entity) (t : ℕ) → DesignatorAs G env rs p z e
      → then_judge (function_alone env m d e) (λ g. Sound (given_type env integer g)) ≡ Sound t → ExpressionAs G env rs p (a.Use z) t
  function_alone_of m d z e t as_z h =
      let one : (g : Gives) × (function_alone env m d e ≡ Sound g) × (Sound (given_type env integer g) ≡ Sound t) =
      then_sound (function_alone env m d e) (λ g. Sound (given_type env integer g)) t h in
      let two : (c : rules.Callee) × (function_of env m d 0 e ≡ Sound c) × (Sound c.gives ≡ Sound one.0) = alone m one.0 one.1 in
      call_done m d z e two.0 s.NoExpressions integer t as_z two.1 (none two.0.wants) tt (first two.0.wants)
      (ap (given_type env integer) (sound_same two.0.gives one.0 two.2) ∙ sound_same (given_type env integer one.0) t one.2)
    where
      none : (ws : List Want) → AllAs G env rs p ws s.NoExpressions
      none [] = tt
      none (w ∷ ws) = tt

      first : (ws : List Want) → FirstIs env ws s.NoExpressions integer
      first [] = tt
      first (w ∷ ws) = tt

      alone : (m : Mode) (g : Gives) → function_alone env m d e ≡ Sound g → (c : rules.Callee) × (function_of env m d 0 e ≡ Sound c) × (Sound c.gives ≡ Sound g)
      alone mode.Variable g h = absurd (cc (also_sound (c4_c9_named env (first_name d) e) _ g h))
      alone mode.Value g h = then_sound (function_of env mode.Value d 0 e) (λ c. Sound c.gives) g h
      alone mode.FirstOperand g h = then_sound (function_of env mode.FirstOperand d 0 e) (λ c. Sound c.gives) g h
      alone mode.Queue g h = then_sound (function_of env mode.Queue d 0 e) (λ c. Sound c.gives) g h

  pub value_as : (m : Mode) (d : s.Designator) (z : a.Designator) (e : Entity) (t : ℕ) → DesignatorAs G env rs p z e → value_of env m d e ≡ Sound t
      → ExpressionAs G env rs p (a.Use z) t
  value_as m d z (entity.Constant base n) t k h =
      subst (λ y. ExpressionAs G env rs p (a.Use y) t) (sym k.1) (constant_of k.0 base t n k.2 (sound_same base t h))
  value_as m d z (entity.Variable u acc) t k h =
      subst (ExpressionAs G env rs p (a.Use z)) (provided_sound (is_used_as_component m env u) (sort_rule m d) (last_name d).at u t h).1 (use_of z u acc k)
  value_as m d z (entity.Type u) t k h = absurd (cc)
  value_as m d z entity.UnfinishedConstant t k h = absurd (cc)
  value_as m d z entity.UnfinishedType t k h = absurd (cc)
  value_as m d z (entity.Routine r) t k h = function_alone_of m d z (entity.Routine r) t k h
  value_as m d z (entity.Entry r) t k h = function_alone_of m d z (entity.Entry r) t k h
  value_as m d z (entity.Standard f) t k h = function_alone_of m d z (entity.Standard f) t k h
  value_as m d z (entity.UnfinishedRoutine r) t k h = function_alone_of m d z (entity.UnfinishedRoutine r) t k h
  value_as m d z entity.Hidden t k h = function_alone_of m d z entity.Hidden t k h
  value_as m d z (entity.Broken w) t k h = function_alone_of m d z (entity.Broken w) t k h

  -- ---- operators

  pub with_base : (e : a.Expression) (t w : ℕ) (b : a.BaseType) → ExpressionAs G env rs p e t → BaseAt rs w b → is_base w (base_of env t) ≡ true
      → IsOfBase b (expression_type p.env e)
  with_base e t w b m base h = same_base b m.type _ m.same (of_base G env rs v.tables t w m.type b m.there base h)

  both_of : (e q : a.Expression) (t u w : ℕ) (b : a.BaseType) → ExpressionAs G env rs p e t → ExpressionAs G env rs p q u → BaseAt rs w b
      → (is_base w (base_of env t) && is_base w (base_of env u)) ≡ true → IsOfBase b (expression_type p.env e) × IsOfBase b (expression_type p.env q)
  both_of e q t u w b m n base h =
      let parts : (is_base w (base_of env t) ≡ true) × (is_base w (base_of env u) ≡ true) = and_parts (is_base w (base_of env t)) _ h in
      (with_base e t w b m base parts.0, with_base q u w b n base parts.1)

  -- two operands of the same base, whatever it is
  related : (e q : a.Expression) (t u : ℕ) → ExpressionAs G env rs p e t → ExpressionAs G env rs p q u → operands_fit None (base_of env t) (base_of env u) ≡ true
      → (b : a.BaseType) × IsOfBase b (expression_type p.env e) × IsOfBase b (expression_type p.env q)
  related e q t u m n h = go (base_of env t) refl h
    where
      go : (o : Option ℕ) → base_of env t ≡ o → operands_fit None o (base_of env u) ≡ true
          → (b : a.BaseType) × IsOfBase b (expression_type p.env e) × IsOfBase b (expression_type p.env q)
      go None is h = absurd (true≢false (sym h))
      go (Some k) is h =
          let b : (c : a.BaseType) × IsOfBase c m.type × BaseAt rs k c = base_for G env rs v.tables t k m.type m.there is in
          (b.0, same_base b.0 m.type _ m.same b.1, with_base q u k b.0 n b.2 h)

  binary_of : (o : Operator) (e q : a.Expression) (t u : ℕ) → ExpressionAs G env rs p e t → ExpressionAs G env rs p q u
      → operands_fit (signature o).wants (base_of env t) (base_of env u) ≡ true → ExpressionAs G env rs p (a.Binary (erase.operator_of o) e q) (signature o).gives
  binary_of operator.Add e q t u m n h =
      record { typed = (m.typed, n.typed, both_of e q t u integer a.Integer m n v.tables.integer h); type = full_range a.Integer; there = v.tables.integer; same = inl refl }
  binary_of operator.Subtract e q t u m n h =
      record { typed = (m.typed, n.typed, both_of e q t u integer a.Integer m n v.tables.integer h); type = full_range a.Integer; there = v.tables.integer; same = inl refl }
  binary_of operator.Multiply e q t u m n h =
      record { typed = (m.typed, n.typed, both_of e q t u integer a.Integer m n v.tables.integer h); type = full_range a.Integer; there = v.tables.integer; same = inl refl }
  binary_of operator.Divide e q t u m n h =
      record { typed = (m.typed, n.typed, both_of e q t u integer a.Integer m n v.tables.integer h); type = full_range a.Integer; there = v.tables.integer; same = inl refl }
  binary_of operator.Modulo e q t u m n h =
      record { typed = (m.typed, n.typed, both_of e q t u integer a.Integer m n v.tables.integer h); type = full_range a.Integer; there = v.tables.integer; same = inl refl }
  binary_of operator.And e q t u m n h =
      record { typed = (m.typed, n.typed, both_of e q t u boolean a.Boolean m n v.tables.boolean h); type = full_range a.Boolean; there = v.tables.boolean; same = inl refl }
  binary_of operator.Or e q t u m n h =
      record { typed = (m.typed, n.typed, both_of e q t u boolean a.Boolean m n v.tables.boolean h); type = full_range a.Boolean; there = v.tables.boolean; same = inl refl }
  binary_of operator.Equal e q t u m n h =
      record { typed = (m.typed, n.typed, related e q t u m n h); type = full_range a.Boolean; there = v.tables.boolean; same = inl refl }
  binary_of operator.Unequal e q t u m n h =
      record { typed = (m.typed, n.typed, related e q t u m n h); type = full_range a.Boolean; there = v.tables.boolean; same = inl refl }
  binary_of operator.Less e q t u m n h =
      record { typed = (m.typed, n.typed, related e q t u m n h); type = full_range a.Boolean; there = v.tables.boolean; same = inl refl }
  binary_of operator.Greater e q t u m n h =
      record { typed = (m.typed, n.typed, related e q t u m n h); type = full_range a.Boolean; there = v.tables.boolean; same = inl refl }
  binary_of operator.AtMost e q t u m n h =
      record { typed = (m.typed, n.typed, related e q t u m n h); type = full_range a.Boolean; there = v.tables.boolean; same = inl refl }
  binary_of operator.AtLeast e q t u m n h =
      record { typed = (m.typed, n.typed, related e q t u m n h); type = full_range a.Boolean; there = v.tables.boolean; same = inl refl }

  signed_of : (sg : Sign) (e : a.Expression) (t : ℕ) → ExpressionAs G env rs p e t → is_base integer (base_of env t) ≡ true → ExpressionAs G env rs p (erase.with_sign sg e) integer
  signed_of sign.Plus e t m h =
      let b : IsOfBase a.Integer (expression_type p.env e) = with_base e t integer a.Integer m v.tables.integer h in
      record { typed = (m.typed, b); type = full_range a.Integer; there = v.tables.integer; same = inr (a.Integer, full_of a.Integer, b) }
  signed_of sign.Minus e t m h =
      let b : IsOfBase a.Integer (expression_type p.env e) = with_base e t integer a.Integer m v.tables.integer h in
      record { typed = (m.typed, b); type = full_range a.Integer; there = v.tables.integer; same = inl refl }

  -- ---- all of them

  mutual
    pub judged_as : (e : s.Expression) (m : Mode) (t : ℕ) → judge env m e ≡ Sound t → ExpressionAs G env rs p (erase.expression e) t
    judged_as (s.Number at n) m t h =
        record { typed = tt; type = full_range a.Integer; there = subst (λ k. TypeAt rs k (full_range a.Integer)) (sound_same integer t h) v.tables.integer; same = inl refl }
    judged_as (s.Character at n) m t h =
        record { typed = tt; type = full_range a.Char; there = subst (λ k. TypeAt rs k (full_range a.Char)) (sound_same 2 t h) v.tables.char; same = inl refl }
    judged_as (s.Designated d) m t h =
        let is : (e : Entity) × (designate env d ≡ Sound e) × (value_of env m d e ≡ Sound t) =
        then_sound (designate env d) (value_of env m d) t (also_sound (c2_c5_c8_named env m d) _ t h) in
        value_as m d (erase.designator d) is.0 t (designated_as d is.0 is.1) is.2
    judged_as (s.Call d es) m t h =
        let callee : Judged rules.Callee = also (c2_indexed env m d) (then_judge (designate env d) (function_of env m d (count_of es))) in
        let is : (c : rules.Callee) × (u : ℕ) × (callee ≡ Sound c) × (arguments env (wants_in env (designate env d) callee) es ≡ Sound u) × (result_of env c u ≡ Sound t) =
        both_sound callee (arguments env (wants_in env (designate env d) callee) es) (result_of env) t (also_sound (c2_c5_c8_named env (first_operand m) d) _ t h) in
        let of : (e : Entity) × (designate env d ≡ Sound e) × (function_of env m d (count_of es) e ≡ Sound is.0) =
        then_sound (designate env d) (function_of env m d (count_of es)) is.0 (also_sound (c2_indexed env m d) _ is.0 is.2) in
        let all : AllSound env is.0.wants es × FirstIs env is.0.wants es is.1 =
        arguments_sound env es is.0.wants is.1 (sym (ap (λ j. arguments env (wants_in env (designate env d) j) es) is.2) ∙ is.3) in
        let meets : AllAs G env rs p is.0.wants es × TypedExpressions p (erase.expressions es) = arguments_as es is.0.wants all.0 in
        call_done m d (erase.designator d) of.0 is.0 es is.1 t (designated_as d of.0 of.1) of.2 meets.0 meets.1 all.1 (sound_same (given_type env is.1 is.0.gives) t is.4)
    judged_as (s.Parenthesized at e) m t h = judged_as e mode.Value t h
    judged_as (s.Not at e) m t h =
        let is : (u : ℕ) × (judge env mode.Value e ≡ Sound u) × (c2_operand env boolean at u ≡ Sound t) = then_sound (judge env mode.Value e) (c2_operand env boolean at) t h in
        let fits : (is_base boolean (base_of env is.0) ≡ true) × (boolean ≡ t) = provided_sound (is_base boolean (base_of env is.0)) C2 at boolean t is.2 in
        let k : ExpressionAs G env rs p (erase.expression e) is.0 = judged_as e mode.Value is.0 is.1 in
        record {
          typed = (k.typed, with_base (erase.expression e) is.0 boolean a.Boolean k v.tables.boolean fits.0);
          type = full_range a.Boolean;
          there = subst (λ n. TypeAt rs n (full_range a.Boolean)) fits.1 v.tables.boolean;
          same = inl refl;
        }
    judged_as (s.Signed sg at e) m t h =
        let is : (u : ℕ) × (judge env mode.Value e ≡ Sound u) × (c2_operand env integer at u ≡ Sound t) = then_sound (judge env mode.Value e) (c2_operand env integer at) t h in
        let fits : (is_base integer (base_of env is.0) ≡ true) × (integer ≡ t) = provided_sound (is_base integer (base_of env is.0)) C2 at integer t is.2 in
        subst (ExpressionAs G env rs p (erase.with_sign sg (erase.expression e))) fits.1 (signed_of sg (erase.expression e) is.0 (judged_as e mode.Value is.0 is.1) fits.0)
    judged_as (s.Binary x o at y) m t h =
        let is : (u : ℕ) × (w : ℕ) × (judge env (first_operand m) x ≡ Sound u) × (judge env mode.Value y ≡ Sound w) × (c2_operands env o at u w ≡ Sound t) =
        both_sound (judge env (first_operand m) x) (judge env mode.Value y) (c2_operands env o at) t h in
        let fits : (operands_fit (signature o).wants (base_of env is.0) (base_of env is.1) ≡ true) × ((signature o).gives ≡ t) =
        provided_sound (operands_fit (signature o).wants (base_of env is.0) (base_of env is.1)) C2 at (signature o).gives t is.4 in
        subst (ExpressionAs G env rs p (a.Binary (erase.operator_of o) (erase.expression x) (erase.expression y))) fits.1
        (binary_of o (erase.expression x) (erase.expression y) is.0 is.1 (judged_as x (first_operand m) is.0 is.2) (judged_as y mode.Value is.1 is.3) fits.0)

    -- a variable that may be changed
    pub varied_as : (e : s.Expression) (t : ℕ) → judge env mode.Variable e ≡ Sound t → c10_variable env e ≡ [] → VariablePart G env rs p (erase.expression e) t
    varied_as (s.Designated d) t h g =
        let is : (e : Entity) × (designate env d ≡ Sound e) × (value_of env mode.Variable d e ≡ Sound t) =
        then_sound (designate env d) (value_of env mode.Variable d) t (also_sound (c2_c5_c8_named env mode.Variable d) _ t h) in
        varied_of G env rs p v d (erase.designator d) is.0 t (designated_as d is.0 is.1) (root_part G env rs p v d is.0 g is.1) is.2
    varied_as _ t h g = absurd (cc)

    pub arguments_as : (es : s.Expressions) (ws : List Want) → AllSound env ws es → AllAs G env rs p ws es × TypedExpressions p (erase.expressions es)
    arguments_as s.NoExpressions [] h = (tt, tt)
    arguments_as s.NoExpressions (w ∷ ws) h = (tt, tt)
    arguments_as (s.MoreExpressions e es) [] h =
        let rest : AllAs G env rs p [] es × TypedExpressions p (erase.expressions es) = arguments_as es [] h.1 in
        let one : ExpressionAs G env rs p (erase.expression e) h.0.0 = judged_as e mode.Value h.0.0 h.0.1 in
        (rest.0, (one.typed, rest.1))
    arguments_as (s.MoreExpressions e es) (w ∷ ws) h =
        let rest : AllAs G env rs p ws es × TypedExpressions p (erase.expressions es) = arguments_as es ws h.1 in
        let judged : judge env (mode_of w) e ≡ Sound h.0.0 = argument_same env w e (judge env (mode_of w) e) h.0.0 h.0.1 in
        let one : ExpressionAs G env rs p (erase.expression e) h.0.0 = judged_as e (mode_of w) h.0.0 judged in (
          (
            record {
              type = h.0.0;
              passed = h.0.1;
              judged = judged;
              meets = one;
              variable = λ k c. varied_as e h.0.0 (sym (ap (λ z. judge env z e) k) ∙ judged) c;
            },
            rest.0,
          ),
          (one.typed, rest.1),
        )

    pub designated_as : (d : s.Designator) (e : Entity) → designate env d ≡ Sound e → DesignatorAs G env rs p (erase.designator d) e
    designated_as (s.Designate x ss) e h =
        selected_as ss (a.Plain x.name) (then_judge (c1_named env x) (before_selectors env x ss)) (first_as G env rs p v x ss) e h

    selected_as : (ss : s.Selectors) (z : a.Designator) (j : Judged Entity) → ((e : Entity) → j ≡ Sound e → DesignatorAs G env rs p z e) → (e : Entity)
        → apply_selectors env j ss ≡ Sound e → DesignatorAs G env rs p (erase.with_selectors z ss) e
    selected_as s.NoSelectors z j k e h = k e h
    selected_as (s.MoreSelectors y ys) z j k e h = selected_as ys (erase.select z y) (select env j y) (select_as y z j k) e h

    select_as : (y : s.Selector) (z : a.Designator) (j : Judged Entity) → ((e : Entity) → j ≡ Sound e → DesignatorAs G env rs p z e) → (e : Entity)
        → select env j y ≡ Sound e → DesignatorAs G env rs p (erase.select z y) e
    select_as (s.Field at x) z j k e h =
        let is : (e0 : Entity) × (j ≡ Sound e0) × (member_of env at x e0 ≡ Sound e) = then_sound j (member_of env at x) e h in
        member_as G env rs p v z at x is.0 e (k is.0 is.1) is.2
    select_as (s.Indexed is) z j k e h = indexed_as is z j k e h

    indexed_as : (is : s.Indices) (z : a.Designator) (j : Judged Entity) → ((e : Entity) → j ≡ Sound e → DesignatorAs G env rs p z e) → (e : Entity)
        → apply_indices env j is ≡ Sound e → DesignatorAs G env rs p (erase.with_indices z is) e
    indexed_as s.NoIndices z j k e h = k e h
    indexed_as (s.MoreIndices at i is) z j k e h =
        indexed_as is (a.At z (erase.expression i)) (both (then_judge j (c2_array env at)) (judge env mode.Value i) (c2_index env (first_token i)))
        (λ e1 g.
        let parts : (part : ArrayPart) × (u : ℕ) × (then_judge j (c2_array env at) ≡ Sound part) × (judge env mode.Value i ≡ Sound u) × (c2_index env (first_token i) part u ≡ Sound e1) =
        both_sound (then_judge j (c2_array env at)) (judge env mode.Value i) (c2_index env (first_token i)) e1 g in
        let of : (e0 : Entity) × (j ≡ Sound e0) × (c2_array env at e0 ≡ Sound parts.0) = then_sound j (c2_array env at) parts.0 parts.2 in
        index_as G env rs p v z (erase.expression i) at (first_token i) parts.1 parts.0 of.0 e1 (k of.0 of.1) of.2 (judged_as i mode.Value parts.1 parts.3) parts.4)
        e h
