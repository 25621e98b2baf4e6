-- The needs of expressions: what their calls take by the meaning is at most what the rules count.
--
-- Both walk over an expression in the same way, so it only has to be shown that a designator calls
-- the routine that the rules know. The rules count words to one above the limit, so a bound says
-- something only if the rules' count is within the limit.
use Rattle.std.proofs.Common.{◌≡◌, ◌≤◌, ℕ, max, List, [], ◌∷◌, Option, None, ap, sym, subst, ◌∙◌, arith}
use Rattle.cp_model.specs.Syntax as s
use Rattle.cp_model.specs.Abstract as a
use Rattle.cp_model.specs.Erase as erase
use Rattle.cp_model.specs.declared.tree.Identifier.{Identifier}
use Rattle.cp_model.specs.declared.tree.Sign.{Sign}
use Rattle.cp_model.specs.declared.tree.Sign.TheVariants as sign
use Rattle.cp_model.specs.declared.rules.Entity.{Entity}
use Rattle.cp_model.specs.declared.rules.Entity.TheVariants as entity
use Rattle.cp_model.specs.declared.rules.ArrayPart.{ArrayPart}
use Rattle.cp_model.specs.declared.rules.Mode.{Mode}
use Rattle.cp_model.specs.declared.rules.Mode.TheVariants as mode
use Rattle.cp_model.specs.declared.rules.Want.{Want}
use Rattle.cp_model.specs.RulesJudged.{Judged, Sound, also, both, then_judge}
use Rattle.cp_model.specs.RulesEnvironment.{Environment, boolean, c1_named, integer}
use Rattle.cp_model.specs.RulesTypes.{word_limit}
use Rattle.cp_model.specs.RulesNames as rules
use Rattle.cp_model.specs.RulesNames.{before_selectors, c2_array, c2_index, c2_indexed, c8_named, count_of, first_name, first_token, function_of, member_of, procedure_of, value_of, c2_c5_c8_named}
use Rattle.cp_model.specs.RulesExpressions.{arguments, c2_operand, c2_operands, designate, first_operand, apply_indices, judge, mode_of, result_of, apply_selectors, wants_in}
use Rattle.cp_model.specs.RulesNeeds.{need_called, need_designator, need_expression, need_expressions, need_indices, need_selectors}
use Rattle.cp_model.specs.Types.{GlobalScope}
use Rattle.cp_model.specs.Calls.{Callee, callee}
use Rattle.cp_law_typing.specs.Judgement.{Place}
use Rattle.cp_law_typing.specs.Needs.{call_need, in_designator, in_expression, in_expressions, of_callee, start_need}
use Rattle.cp_model.proofs.Judging.{also_sound, both_sound, then_sound}
use Rattle.cp_law_typing.proofs.TableMeanings.{Types}
use Rattle.cp_law_typing.proofs.Visible.{DesignatorAs, OwnAs, Visible}
use Rattle.cp_law_typing.proofs.Calls.{AllSound, FirstIs, argument_same, arguments_sound}
use Rattle.cp_law_typing.proofs.Expressions.{designated_as}

-- n is at most k, if k is within the limit
abbrev pub Bounded : ℕ → ℕ → Type 0
Bounded n k = k ≤ word_limit → n ≤ k

pub max_bounded : (m n k l : ℕ) → Bounded m k → Bounded n l → Bounded (max m n) (max k l)
max_bounded m n k l f g h = omega (arith, f (omega (arith, h)), g (omega (arith, h)))

-- ---- what is used is known

abbrev pub IsUsed : Entity → Type 0
IsUsed (entity.Constant b n) = Unit {0}
IsUsed (entity.Variable t q) = Unit {0}
IsUsed (entity.Routine r) = Unit {0}
IsUsed (entity.Entry r) = Unit {0}
IsUsed (entity.Standard f) = Unit {0}
IsUsed _ = ⊥

module _ (env : Environment) where
  pub used_by_function : (m : Mode) (d : s.Designator) (n : ℕ) (e : Entity) (c : rules.Callee) → function_of env m d n e ≡ Sound c → IsUsed e
  used_by_function m d n (entity.Constant b k) c h = tt
  used_by_function m d n (entity.Variable t q) c h = tt
  used_by_function m d n (entity.Routine r) c h = tt
  used_by_function m d n (entity.Entry r) c h = tt
  used_by_function m d n (entity.Standard f) c h = tt
  used_by_function m d n (entity.UnfinishedRoutine r) c h = absurd (cc)
  used_by_function m d n (entity.Type t) c h = absurd (cc)
  used_by_function m d n entity.UnfinishedConstant c h = absurd (cc)
  used_by_function m d n entity.UnfinishedType c h = absurd (cc)
  used_by_function m d n entity.Hidden c h = absurd (cc)
  used_by_function m d n (entity.Broken w) c h = absurd (cc)

  pub used_by_procedure : (d : s.Designator) (n : ℕ) (e : Entity) (c : rules.Callee) → procedure_of env d n e ≡ Sound c → IsUsed e
  used_by_procedure d n (entity.Constant b k) c h = tt
  used_by_procedure d n (entity.Variable t q) c h = tt
  used_by_procedure d n (entity.Routine r) c h = tt
  used_by_procedure d n (entity.Entry r) c h = tt
  used_by_procedure d n (entity.Standard f) c h = tt
  used_by_procedure d n (entity.UnfinishedRoutine r) c h = absurd (cc)
  used_by_procedure d n (entity.Type t) c h = absurd (cc)
  used_by_procedure d n entity.UnfinishedConstant c h = absurd (cc)
  used_by_procedure d n entity.UnfinishedType c h = absurd (cc)
  used_by_procedure d n entity.Hidden c h = absurd (cc)
  used_by_procedure d n (entity.Broken w) c h = absurd (cc)

  -- a function that is called by its bare name, where a variable isn't required
  alone_used : (m : Mode) (d : s.Designator) (e : Entity) (t : ℕ)
      → then_judge (then_judge (function_of env m d 0 e) (λ c. Sound c.gives)) (λ g. Sound (rules.given_type env integer g)) ≡ Sound t → IsUsed e
  alone_used m d e t h =
      let one = then_sound (then_judge (function_of env m d 0 e) (λ c. Sound c.gives)) (λ g. Sound (rules.given_type env integer g)) t h in
      let two = then_sound (function_of env m d 0 e) (λ c. Sound c.gives) one.0 one.1 in
      used_by_function m d 0 e two.0 two.1

  pub used_by_value : (m : Mode) (d : s.Designator) (e : Entity) (t : ℕ) → value_of env m d e ≡ Sound t → IsUsed e
  used_by_value m d (entity.Constant b k) t h = tt
  used_by_value m d (entity.Variable u q) t h = tt
  used_by_value m d (entity.Routine r) t h = tt
  used_by_value m d (entity.Entry r) t h = tt
  used_by_value m d (entity.Standard f) t h = tt
  used_by_value m d (entity.Type u) t h = absurd (cc)
  used_by_value m d entity.UnfinishedConstant t h = absurd (cc)
  used_by_value m d entity.UnfinishedType t h = absurd (cc)
  used_by_value mode.Variable d (entity.UnfinishedRoutine r) t h = absurd (cc)
  used_by_value mode.Value d (entity.UnfinishedRoutine r) t h = alone_used mode.Value d (entity.UnfinishedRoutine r) t h
  used_by_value mode.FirstOperand d (entity.UnfinishedRoutine r) t h = alone_used mode.FirstOperand d (entity.UnfinishedRoutine r) t h
  used_by_value mode.Queue d (entity.UnfinishedRoutine r) t h = alone_used mode.Queue d (entity.UnfinishedRoutine r) t h
  used_by_value mode.Variable d entity.Hidden t h = absurd (cc)
  used_by_value mode.Value d entity.Hidden t h = alone_used mode.Value d entity.Hidden t h
  used_by_value mode.FirstOperand d entity.Hidden t h = alone_used mode.FirstOperand d entity.Hidden t h
  used_by_value mode.Queue d entity.Hidden t h = alone_used mode.Queue d entity.Hidden t h
  used_by_value mode.Variable d (entity.Broken w) t h = absurd (cc)
  used_by_value mode.Value d (entity.Broken w) t h = alone_used mode.Value d (entity.Broken w) t h
  used_by_value mode.FirstOperand d (entity.Broken w) t h = alone_used mode.FirstOperand d (entity.Broken w) t h
  used_by_value mode.Queue d (entity.Broken w) t h = alone_used mode.Queue d (entity.Broken w) t h

-- ---- expressions

module _ (G : GlobalScope → Type 0) (env : Environment) (rs : Types) (p : Place) (v : Visible G env rs p) (n : ℕ) where
  -- what the parts of an expression take, counting calls to the given depth
  abbrev pub called : Option Callee → ℕ
  called o = of_callee (call_need n p.env.globals p.env.system) (start_need n p.env.globals) p.env o

  abbrev pub inside : a.Designator → ℕ
  inside d = in_designator (call_need n p.env.globals p.env.system) (start_need n p.env.globals) p.env d

  abbrev pub expression_takes : a.Expression → ℕ
  expression_takes e = in_expression (call_need n p.env.globals p.env.system) (start_need n p.env.globals) p.env e

  abbrev pub expressions_take : a.Expressions → ℕ
  expressions_take es = in_expressions (call_need n p.env.globals p.env.system) (start_need n p.env.globals) p.env es

  -- a designator that isn't a call
  none_called : (d : a.Designator) (k : ℕ) → callee p.env d ≡ None → Bounded (called (callee p.env d)) k
  none_called d k h = subst (λ o. Bounded (called o) k) (sym h) (λ l. omega arith)

  callee_bounded : (d : a.Designator) (e : Entity) → IsUsed e → DesignatorAs G env rs p d e → Bounded (called (callee p.env d)) (need_called env (Sound e))
  callee_bounded d (entity.Variable t q) u k = none_called d 0 k.no_call
  callee_bounded d (entity.Constant b m) u k = none_called d 0 (ap (callee p.env) k.1 ∙ k.2.no_call)
  callee_bounded d (entity.Standard f) u k = none_called d 0 (ap (callee p.env) k.1 ∙ k.2.1)
  callee_bounded d (entity.Routine r) u k =
      let own : OwnAs G env rs p k.0 r = k.2 in
      subst (λ o. Bounded (called o) (need_called env (Sound (entity.Routine r)))) (sym (ap (callee p.env) k.1 ∙ own.named)) (own.need n p.env.globals v.scope)
  callee_bounded d (entity.Entry r) u k =
      subst (λ o. Bounded (called o) (need_called env (Sound (entity.Entry r)))) (sym k.named) (k.need n p.env.globals v.scope)
  callee_bounded d _ u k = absurd u

  signed_bounded : (sg : Sign) (e : s.Expression) → Bounded (expression_takes (erase.expression e)) (need_expression env e)
      → Bounded (expression_takes (erase.with_sign sg (erase.expression e))) (need_expression env e)
  signed_bounded sign.Plus e h = h
  signed_bounded sign.Minus e h = h

  call_bounded : (d : s.Designator) (es : s.Expressions)
      → Bounded (max (called (callee p.env (erase.designator d))) (inside (erase.designator d))) (need_designator env d)
      → Bounded (expressions_take (erase.expressions es)) (need_expressions env es)
      → Bounded (expression_takes (erase.call_or_name (erase.designator d) (erase.expressions es))) (max (need_designator env d) (need_expressions env es))
  call_bounded d s.NoExpressions f g = λ l. omega (arith, f (omega (arith, l)))
  call_bounded d (s.MoreExpressions e es) f g = λ l. omega (arith, f (omega (arith, l)), g (omega (arith, l)))

  mutual
    pub expression_bounded : (e : s.Expression) (m : Mode) (t : ℕ) → judge env m e ≡ Sound t → Bounded (expression_takes (erase.expression e)) (need_expression env e)
    expression_bounded (s.Number at k) m t h = λ l. omega arith
    expression_bounded (s.Character at k) m t h = λ l. omega arith
    expression_bounded (s.Designated d) m t h =
        let is : (e : Entity) × (designate env d ≡ Sound e) × (value_of env m d e ≡ Sound t) =
        then_sound (designate env d) (value_of env m d) t (also_sound (c2_c5_c8_named env m d) _ t h) in
        designator_bounded d is.0 is.1 (used_by_value env m d is.0 t is.2)
    expression_bounded (s.Call d es) m t h =
        let callee : Judged rules.Callee = also (c2_indexed env m d) (then_judge (designate env d) (function_of env m d (count_of es))) in
        let is : (c : rules.Callee) × (u : ℕ) × (callee ≡ Sound c) × (arguments env (wants_in env (designate env d) callee) es ≡ Sound u) × (result_of env c u ≡ Sound t) =
        both_sound callee (arguments env (wants_in env (designate env d) callee) es) (result_of env) t (also_sound (c2_c5_c8_named env (first_operand m) d) _ t h) in
        let of : (e : Entity) × (designate env d ≡ Sound e) × (function_of env m d (count_of es) e ≡ Sound is.0) =
        then_sound (designate env d) (function_of env m d (count_of es)) is.0 (also_sound (c2_indexed env m d) _ is.0 is.2) in
        let all : AllSound env is.0.wants es × FirstIs env is.0.wants es is.1 =
        arguments_sound env es is.0.wants is.1 (sym (ap (λ j. arguments env (wants_in env (designate env d) j) es) is.2) ∙ is.3) in
        call_bounded d es (designator_bounded d of.0 of.1 (used_by_function env m d (count_of es) of.0 is.0 of.2)) (arguments_bounded es is.0.wants all.0)
    expression_bounded (s.Parenthesized at e) m t h = expression_bounded e mode.Value t h
    expression_bounded (s.Not at e) m t h =
        let is : (u : ℕ) × (judge env mode.Value e ≡ Sound u) × (c2_operand env boolean at u ≡ Sound t) = then_sound (judge env mode.Value e) (c2_operand env boolean at) t h in
        expression_bounded e mode.Value is.0 is.1
    expression_bounded (s.Signed sg at e) m t h =
        let is : (u : ℕ) × (judge env mode.Value e ≡ Sound u) × (c2_operand env integer at u ≡ Sound t) = then_sound (judge env mode.Value e) (c2_operand env integer at) t h in
        signed_bounded sg e (expression_bounded e mode.Value is.0 is.1)
    expression_bounded (s.Binary x o at y) m t h =
        let is : (u : ℕ) × (w : ℕ) × (judge env (first_operand m) x ≡ Sound u) × (judge env mode.Value y ≡ Sound w) × (c2_operands env o at u w ≡ Sound t) =
        both_sound (judge env (first_operand m) x) (judge env mode.Value y) (c2_operands env o at) t h in
        max_bounded _ _ _ _ (expression_bounded x (first_operand m) is.0 is.2) (expression_bounded y mode.Value is.1 is.3)

    pub arguments_bounded : (es : s.Expressions) (ws : List Want) → AllSound env ws es → Bounded (expressions_take (erase.expressions es)) (need_expressions env es)
    arguments_bounded s.NoExpressions ws h = λ l. omega arith
    arguments_bounded (s.MoreExpressions e es) [] h = max_bounded _ _ _ _ (expression_bounded e mode.Value h.0.0 h.0.1) (arguments_bounded es [] h.1)
    arguments_bounded (s.MoreExpressions e es) (w ∷ ws) h =
        max_bounded _ _ _ _ (expression_bounded e (mode_of w) h.0.0 (argument_same env w e (judge env (mode_of w) e) h.0.0 h.0.1)) (arguments_bounded es ws h.1)

    -- a designator, and the call that it may be
    pub designator_bounded : (d : s.Designator) (e : Entity) → designate env d ≡ Sound e → IsUsed e
        → Bounded (max (called (callee p.env (erase.designator d))) (inside (erase.designator d))) (need_designator env d)
    designator_bounded (s.Designate x ss) e h used =
        let known : Bounded (called (callee p.env (erase.designator (s.Designate x ss)))) (need_called env (designate env (s.Designate x ss))) =
        subst (λ j. Bounded (called (callee p.env (erase.designator (s.Designate x ss)))) (need_called env j)) (sym h)
        (callee_bounded (erase.designator (s.Designate x ss)) e used (designated_as G env rs p v (s.Designate x ss) e h)) in
        let parts : Bounded (inside (erase.with_selectors (a.Plain x.name) ss)) (max 0 (need_selectors env ss)) =
        (selectors_bounded ss (then_judge (c1_named env x) (before_selectors env x ss)) e h).1 (a.Plain x.name) 0 (λ l. omega arith) in
        λ l. omega (arith, known (omega (arith, l)), parts (omega (arith, l)))

    selectors_bounded : (ss : s.Selectors) (j : Judged Entity) (e : Entity) → apply_selectors env j ss ≡ Sound e
        → ((e0 : Entity) × (j ≡ Sound e0)) × ((d : a.Designator) (k : ℕ) → Bounded (inside d) k → Bounded (inside (erase.with_selectors d ss)) (max k (need_selectors env ss)))
    selectors_bounded s.NoSelectors j e h = ((e, h), λ d k f l. omega (arith, f (omega (arith, l))))
    selectors_bounded (s.MoreSelectors (s.Field at x) ss) j e h =
        let rest : ((e0 : Entity) × (then_judge j (member_of env at x) ≡ Sound e0))
        × ((d : a.Designator) (k : ℕ) → Bounded (inside d) k → Bounded (inside (erase.with_selectors d ss)) (max k (need_selectors env ss))) =
        selectors_bounded ss (then_judge j (member_of env at x)) e h in
        let is : (e0 : Entity) × (j ≡ Sound e0) × (member_of env at x e0 ≡ Sound rest.0.0) = then_sound j (member_of env at x) rest.0.0 rest.0.1 in
        ((is.0, is.1), λ d k f l. omega (arith, rest.1 (a.Part d x.name) k f (omega (arith, l))))
    selectors_bounded (s.MoreSelectors (s.Indexed is) ss) j e h =
        let rest : ((e0 : Entity) × (apply_indices env j is ≡ Sound e0))
        × ((d : a.Designator) (k : ℕ) → Bounded (inside d) k → Bounded (inside (erase.with_selectors d ss)) (max k (need_selectors env ss))) =
        selectors_bounded ss (apply_indices env j is) e h in
        let one : ((e0 : Entity) × (j ≡ Sound e0))
        × ((d : a.Designator) (k : ℕ) → Bounded (inside d) k → Bounded (inside (erase.with_indices d is)) (max k (need_indices env is))) = indices_bounded is j rest.0.0 rest.0.1 in
        (one.0, λ d k f l. omega (arith, rest.1 (erase.with_indices d is) (max k (need_indices env is)) (one.1 d k f) (omega (arith, l))))

    indices_bounded : (is : s.Indices) (j : Judged Entity) (e : Entity) → apply_indices env j is ≡ Sound e
        → ((e0 : Entity) × (j ≡ Sound e0)) × ((d : a.Designator) (k : ℕ) → Bounded (inside d) k → Bounded (inside (erase.with_indices d is)) (max k (need_indices env is)))
    indices_bounded s.NoIndices j e h = ((e, h), λ d k f l. omega (arith, f (omega (arith, l))))
    indices_bounded (s.MoreIndices at i is) j e h =
        let one : Judged Entity = both (then_judge j (c2_array env at)) (judge env mode.Value i) (c2_index env (first_token i)) in
        let rest : ((e0 : Entity) × (one ≡ Sound e0))
        × ((d : a.Designator) (k : ℕ) → Bounded (inside d) k → Bounded (inside (erase.with_indices d is)) (max k (need_indices env is))) = indices_bounded is one e h in
        let parts : (part : ArrayPart) × (u : ℕ) × (then_judge j (c2_array env at) ≡ Sound part) × (judge env mode.Value i ≡ Sound u) × (c2_index env (first_token i) part u ≡ Sound rest.0.0) =
        both_sound (then_judge j (c2_array env at)) (judge env mode.Value i) (c2_index env (first_token i)) rest.0.0 rest.0.1 in
        let of : (e0 : Entity) × (j ≡ Sound e0) × (c2_array env at e0 ≡ Sound parts.0) = then_sound j (c2_array env at) parts.0 parts.2 in
        let index : Bounded (expression_takes (erase.expression i)) (need_expression env i) = expression_bounded i mode.Value parts.1 parts.3 in (
          (of.0, of.1),
          λ d k f l.
              omega (arith, rest.1 (a.At d (erase.expression i)) (max k (need_expression env i)) (max_bounded _ _ _ _ f index) (omega (arith, l))),
        )

  pub inside_bounded : (x : Identifier) (ss : s.Selectors) (e : Entity) → designate env (s.Designate x ss) ≡ Sound e
      → Bounded (inside (erase.designator (s.Designate x ss))) (need_selectors env ss)
  inside_bounded x ss e h =
      let k = (selectors_bounded ss (then_judge (c1_named env x) (before_selectors env x ss)) e h).1 (a.Plain x.name) 0 (λ l. omega arith) in
      λ l. omega (arith, k (omega (arith, l)))
