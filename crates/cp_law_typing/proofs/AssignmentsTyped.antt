-- Assignments in which nothing is broken are typed.
use Rattle.std.proofs.Common.{◌≡◌, ℕ, Bool, true, false, ◌&&◌, not, [], ◌++◌, nat_eq, refl, ap, sym, subst, ◌∙◌, is_some}
use Rattle.std.proofs.lemmas.Bool.{true≢false}
use Rattle.cp_model.specs.Syntax as s
use Rattle.cp_model.specs.Abstract as a
use Rattle.cp_model.specs.Erase as erase
use Rattle.cp_model.specs.declared.tree.Identifier.{Identifier}
use Rattle.cp_model.specs.declared.rules.Rule.TheVariants.{C2, C8}
use Rattle.cp_model.specs.declared.rules.Access.{Access}
use Rattle.cp_model.specs.declared.rules.Entity.{Entity}
use Rattle.cp_model.specs.declared.rules.Entity.TheVariants as entity
use Rattle.cp_model.specs.declared.rules.Structure.{Structure}
use Rattle.cp_model.specs.declared.rules.Structure.TheVariants as structure
use Rattle.cp_model.specs.declared.rules.Returns.{Returns}
use Rattle.cp_model.specs.declared.rules.Returns.TheVariants as returns
use Rattle.cp_model.specs.declared.rules.RoutineRow.{RoutineRow}
use Rattle.cp_model.specs.declared.rules.Mode.TheVariants as mode
use Rattle.cp_model.specs.RulesJudged.{Judged, Sound, Broken, also, then_judge}
use Rattle.cp_model.specs.RulesEnvironment.{Environment, agree, base_in, bases_agree, c1_named, is_component, is_structured, row_of, system_in}
use Rattle.cp_model.specs.RulesNames.{c10_designator, c8_named, first_name, has_queues as names_queues, value_of, c2_c5_c8_named, c2_before_index, c5_after_point}
use Rattle.cp_model.specs.RulesExpressions.{designate, judge}
use Rattle.cp_model.specs.RulesStatements.{assignment, c2_sides, judged_unless, left_side, left_by, lone_component, other_left_side, own_result, right}
use Rattle.cp_model.specs.Types.{GlobalScope, ResolvedType}
use Rattle.cp_law_typing.specs.StaticTypes.{expression_type, place_type}
use Rattle.cp_law_typing.specs.Judgement as typed
use Rattle.cp_law_typing.specs.Judgement.{Agree, AllFit, AllInitFit, Called, InitFits, Initialises, IsChangeable, IsCharVariable, IsComponentArgument, IsNew, IsOfBase, IsProcedureCall, IsStandardStatement, Place, TypedArms, TypedExpression, TypedExpressions, TypedLabels, TypedPlace, TypedStatement, has_queues, labels_seen}
use Rattle.cp_model.proofs.Judging.{BothSound, also_none, also_sound, both_parts, first_empty, provided_holds, rest_empty, sound_same, then_sound}
use Rattle.cp_law_typing.proofs.TypeRows.{holds}
use Rattle.cp_law_typing.proofs.TableMeanings.{RowAs, TypeAt, Types}
use Rattle.cp_law_typing.proofs.Visible.{ExpressionAs, PartAs, ResultAs, Visible, agree_as, agree_value}
use Rattle.cp_law_typing.proofs.Designators.{named_as}
use Rattle.cp_law_typing.proofs.Arguments.{VariablePart}
use Rattle.cp_law_typing.proofs.Expressions.{judged_as, varied_as}
use Rattle.cp_law_typing.proofs.ChangeableParts.{ChangeableRoot, changeable_root}

-- the designator of an argument
abbrev pub use_in : a.Expression → a.Designator
use_in (a.Use z) = z
use_in _ = a.Plain []

module _ (G : GlobalScope → Type 0) (env : Environment) (rs : Types) (p : Place) (v : Visible G env rs p) where
  -- ---- left sides

  pub record LeftAs (z : a.Designator) (t : ℕ) : Type 0 where
    pub type : ResolvedType
    pub there : TypeAt rs t type
    pub place : place_type p.env z ≡ type
    pub typed_place : TypedPlace p z
    pub changeable : IsChangeable p.env z
    pub free : has_queues type ≡ false

  -- a name that is judged to have no queues
  pub queue_free : (x : Identifier) (t : ℕ) (acc : Access) → c1_named env x ≡ Sound (entity.Variable t acc) → c8_named env mode.Value x ≡ []
      → has_queues (place_type p.env (a.Plain x.name)) ≡ false
  queue_free x t acc is h =
      let q : PartAs G env rs p (a.Plain x.name) t acc = named_as G env rs p v x (entity.Variable t acc) is in
      let row : RowAs G env rs (row_of env t) q.type = v.tables.rows t q.type q.there in
      let free : (row_of env t).has_queues ≡ false =
      ap (names_queues env) (sym is) ∙ not_true (names_queues env (c1_named env x)) (holds (not (names_queues env (c1_named env x))) C8 x.at h) in
      ap has_queues q.place ∙ sym row.queues ∙ free
    where
      not_true : (b : Bool) → not b ≡ true → b ≡ false
      not_true true h = absurd (true≢false (sym h))
      not_true false h = refl

  pub first_is : (d : s.Designator) → typed.first_name (erase.designator d) ≡ (first_name d).name
  first_is (s.Designate x ss) = selected_first ss (a.Plain x.name)
    where
      indexed_first : (is : s.Indices) (z : a.Designator) → typed.first_name (erase.with_indices z is) ≡ typed.first_name z
      indexed_first s.NoIndices z = refl
      indexed_first (s.MoreIndices at i is) z = indexed_first is (a.At z (erase.expression i))

      selected_first : (ss : s.Selectors) (z : a.Designator) → typed.first_name (erase.with_selectors z ss) ≡ typed.first_name z
      selected_first s.NoSelectors z = refl
      selected_first (s.MoreSelectors (s.Field at y) ss) z = selected_first ss (a.Part z y.name)
      selected_first (s.MoreSelectors (s.Indexed is) ss) z = selected_first ss (erase.with_indices z is) ∙ indexed_first is z

  pub other_left_as : (x : Identifier) (ss : s.Selectors) (t : ℕ) → other_left_side env (s.Designate x ss) ≡ Sound t → LeftAs (erase.designator (s.Designate x ss)) t
  other_left_as x ss t h =
      let e : s.Designator = s.Designate x ss in
      let reported : c2_c5_c8_named env mode.Variable e ++ c10_designator env e ≡ [] = also_none (c2_c5_c8_named env mode.Variable e ++ c10_designator env e) _ t h in
      let value : then_judge (designate env e) (value_of env mode.Variable e) ≡ Sound t =
      also_sound (c2_c5_c8_named env mode.Variable e ++ c10_designator env e) _ t h in
      let names : c2_c5_c8_named env mode.Variable e ≡ [] = first_empty _ (c10_designator env e) reported in
      let queues : c8_named env mode.Variable x ≡ [] = rest_empty (c2_before_index env mode.Variable e ++ c5_after_point env e) _ names in
      let variable : c10_designator env e ≡ [] = rest_empty (c2_c5_c8_named env mode.Variable e) _ reported in
      let judged : judge env mode.Variable (s.Designated e) ≡ Sound t =
      ap (λ vs. also vs (then_judge (designate env e) (value_of env mode.Variable e))) names ∙ value in
      let q : VariablePart G env rs p (a.Use (erase.designator e)) t = varied_as G env rs p v (s.Designated e) t judged variable in
      let same : q.designator ≡ erase.designator e = ap use_in (sym q.is) in
      let of : (e0 : Entity) × (designate env e ≡ Sound e0) × (value_of env mode.Variable e e0 ≡ Sound t) =
      then_sound (designate env e) (value_of env mode.Variable e) t value in
      let root : ChangeableRoot G env rs p v x = changeable_root G env rs p v x ss of.0 variable of.1 in
      let y : PartAs G env rs p (erase.designator e) t q.access = subst (λ z. PartAs G env rs p z t q.access) same q.part in
      record {
        type = y.type;
        there = y.there;
        place = y.place;
        typed_place = y.typed_place;
        changeable = y.changeable q.changeable;
        free = y.free (ap (λ z. has_queues (place_type p.env (a.Plain z))) (first_is e) ∙ queue_free x root.type root.access root.is queues);
      }

  pub own_left_as : (x : Identifier) (ss : s.Selectors) (row : RoutineRow) (o : Returns) (t : ℕ) → row.returns ≡ o → ResultAs G env rs p x.name row
      → own_result x ss o ≡ Sound t → LeftAs (erase.designator (s.Designate x ss)) t
  own_left_as x s.NoSelectors row (returns.Value u) t is k h =
      let same : u ≡ t = sound_same u t h in
      let m = k t (is ∙ ap (λ n. returns.Value n) same) in
      record { type = m.0; there = m.1; place = m.2; typed_place = m.3; changeable = m.4; free = m.5 }
  own_left_as x ss row returns.Nothing t is k h = absurd (cc)
  own_left_as x s.NoSelectors row (returns.Broken w) t is k h = absurd (cc)
  own_left_as x (s.MoreSelectors y ys) row (returns.Value u) t is k h = absurd (cc)
  own_left_as x (s.MoreSelectors y ys) row (returns.Broken w) t is k h = absurd (cc)

  pub left_as : (e : s.Designator) (t : ℕ) → left_side env e ≡ Sound t → LeftAs (erase.designator e) t
  left_as (s.Designate x ss) t h = go (c1_named env x) refl h
    where
      go : (j : Judged Entity) → c1_named env x ≡ j → left_by env x ss j ≡ Sound t → LeftAs (erase.designator (s.Designate x ss)) t
      go (Sound (entity.UnfinishedRoutine r)) is h = own_left_as x ss r r.returns t refl (named_as G env rs p v x (entity.UnfinishedRoutine r) is) h
      go (Sound (entity.Constant b n)) is h = other_left_as x ss t h
      go (Sound (entity.Type u)) is h = other_left_as x ss t h
      go (Sound (entity.Variable u q)) is h = other_left_as x ss t h
      go (Sound (entity.Routine r)) is h = other_left_as x ss t h
      go (Sound (entity.Entry r)) is h = other_left_as x ss t h
      go (Sound (entity.Standard f)) is h = other_left_as x ss t h
      go (Sound entity.UnfinishedConstant) is h = other_left_as x ss t h
      go (Sound entity.UnfinishedType) is h = other_left_as x ss t h
      go (Sound entity.Hidden) is h = other_left_as x ss t h
      go (Sound (entity.Broken w)) is h = other_left_as x ss t h
      go (Broken w ws) is h = other_left_as x ss t h

  -- ---- assignments

  -- a component agrees with nothing
  pub agrees_alone : (a b : Structure) (same : Bool) → bases_agree (base_in a) (base_in b) (same && is_structured a) ≡ true → is_some (system_in a) ≡ false
  agrees_alone (structure.Simple base low high) b same h = refl
  agrees_alone (structure.Array index element) b same h = refl
  agrees_alone (structure.Record k) b same h = refl
  agrees_alone structure.Queue b same h = refl
  agrees_alone (structure.System y) b true h = absurd (true≢false (sym h))
  agrees_alone (structure.System y) b false h = absurd (true≢false (sym h))

  pub assigned_as : (e : s.Designator) (at : ℕ) (x : s.Expression) → assignment env e at x ≡ [] → TypedStatement p (a.Assign (erase.designator e) (erase.expression x))
  assigned_as e at x h =
      let sides : BothSound (left_side env e) (right env (left_side env e) x) (c2_sides env at) = both_parts _ _ _ h in
      let fits : agree env sides.x sides.y ≡ true = provided_holds (agree env sides.x sides.y) C2 at sides.x sides.outside in
      let alone : is_component env sides.x ≡ false =
      agrees_alone (row_of env sides.x).structure (row_of env sides.y).structure (nat_eq sides.x sides.y) fits in
      let value : judge env mode.Value x ≡ Sound sides.y =
      sym (ap (λ b. judged_unless (judge env mode.Value x) b (lone_component env x)) alone)
      ∙ sym (ap (λ j. right env j x) sides.left) ∙ sides.right in
      let l : LeftAs (erase.designator e) sides.x = left_as e sides.x sides.left in
      let r : ExpressionAs G env rs p (erase.expression x) sides.y = judged_as G env rs p v x mode.Value sides.y value in
      let agrees : Agree l.type (expression_type p.env (erase.expression x)) =
      agree_value l.type r.type _ (agree_as G env rs v.tables sides.x sides.y l.type r.type l.there r.there fits) r.same in (
        l.typed_place,
        r.typed,
        subst (λ z. Agree z (expression_type p.env (erase.expression x))) (sym l.place) agrees,
        l.changeable,
        ap has_queues l.place ∙ l.free,
      )
