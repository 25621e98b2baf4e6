-- Parts of a variable keep its access: a part of a variable that may be changed may be changed too.
use Rattle.std.proofs.Common.{◌≡◌, ℕ, true, [], Option, Some, None, refl, ap, sym, subst, ◌∙◌}
use Rattle.std.proofs.lemmas.Bool.{true≢false, and_parts}
use Rattle.cp_model.specs.Syntax as s
use Rattle.cp_model.specs.Abstract as a
use Rattle.cp_model.specs.declared.tree.Identifier.{Identifier}
use Rattle.cp_model.specs.declared.rules.Rule.TheVariants.{C2, C10}
use Rattle.cp_model.specs.declared.rules.Access.{Access}
use Rattle.cp_model.specs.declared.rules.Entity.{Entity}
use Rattle.cp_model.specs.declared.rules.Entity.TheVariants as entity
use Rattle.cp_model.specs.declared.rules.Gives.{Gives}
use Rattle.cp_model.specs.declared.rules.Mode.TheVariants as mode
use Rattle.cp_model.specs.declared.rules.Structure.{Structure}
use Rattle.cp_model.specs.declared.rules.Structure.TheVariants as structure
use Rattle.cp_model.specs.declared.rules.Member.{Member}
use Rattle.cp_model.specs.declared.rules.Member.TheVariants as member
use Rattle.cp_model.specs.declared.rules.ArrayPart.{ArrayPart}
use Rattle.cp_model.specs.RulesJudged.{Judged, Sound, Broken, both, then_judge}
use Rattle.cp_model.specs.RulesEnvironment.{Environment, Members as MemberList, agree, c1_named, integer, members_in, row_of}
use Rattle.cp_model.specs.RulesNames.{array_in, before_selectors, c10_designator, c2_array, c2_index, first_token, function_alone, given_type, is_changeable, is_used_as_component, is_variable, last_name, member_among, member_named, member_of, value_of, sort_rule}
use Rattle.cp_model.specs.RulesExpressions.{designate, apply_indices, judge, apply_selectors}
use Rattle.cp_model.specs.Types.{GlobalScope}
use Rattle.cp_model.specs.Names.{lookup}
use Rattle.cp_law_typing.specs.Judgement.{Place}
use Rattle.cp_model.proofs.Judging.{both_sound, provided_sound, sound_same, then_sound}
use Rattle.cp_law_typing.proofs.TypeRows.{holds}
use Rattle.cp_law_typing.proofs.TableMeanings.{Types}
use Rattle.cp_law_typing.proofs.Visible.{DesignatorAs, PartAs, Visible}
use Rattle.cp_law_typing.proofs.Designators.{before_same}
use Rattle.cp_law_typing.proofs.Arguments.{VariablePart}

module _ (G : GlobalScope → Type 0) (env : Environment) (rs : Types) (p : Place) (v : Visible G env rs p) where
  -- ---- parts keep the access of their variable

  abbrev pub FromRoot : Access → Entity → Type 0
  FromRoot q (entity.Variable t acc) = acc ≡ q
  FromRoot q (entity.Entry r) = Unit {0}
  FromRoot q _ = ⊥

  pub member_kept : (q : Access) (at : ℕ) (x : Identifier) (e0 e : Entity) → FromRoot q e0 → member_of env at x e0 ≡ Sound e → FromRoot q e
  member_kept q at x (entity.Variable t acc) e k h = among (members_in env (row_of env t).structure) h
    where
      named : (o : Option Member) → member_named env x acc o ≡ Sound e → FromRoot q e
      named None h = absurd (cc)
      named (Some (member.Field u)) h = subst (FromRoot q) (sound_same (entity.Variable u acc) e h) k
      named (Some (member.Routine r)) h = subst (FromRoot q) (sound_same (entity.Entry r) e h) tt

      among : (o : Option MemberList) → member_among env at x acc o ≡ Sound e → FromRoot q e
      among None h = absurd (cc)
      among (Some ms) h = named (lookup x.name ms) h
  member_kept q at x (entity.Entry r) e k h = absurd (cc)
  member_kept q at x _ e k h = absurd k

  pub array_kept : (q acc : Access) (at : ℕ) (st : Structure) (part : ArrayPart) → acc ≡ q → array_in at acc st ≡ Sound part → part.access ≡ q
  array_kept q acc at (structure.Array i el) part k h = ap (λ z. z.access) (sym (sound_same (record { index = i; element = el; access = acc }) part h)) ∙ k
  array_kept q acc at (structure.Simple base low high) part k h = absurd (cc)
  array_kept q acc at (structure.Record n) part k h = absurd (cc)
  array_kept q acc at structure.Queue part k h = absurd (cc)
  array_kept q acc at (structure.System n) part k h = absurd (cc)

  pub part_kept : (q : Access) (at : ℕ) (e0 : Entity) (part : ArrayPart) → FromRoot q e0 → c2_array env at e0 ≡ Sound part → part.access ≡ q
  part_kept q at (entity.Variable t acc) part k h = array_kept q acc at (row_of env t).structure part k h
  part_kept q at (entity.Entry r) part k h = absurd (cc)
  part_kept q at _ part k h = absurd k

  pub indices_kept : (is : s.Indices) (q : Access) (j : Judged Entity) → ((e : Entity) → j ≡ Sound e → FromRoot q e) → (e : Entity) → apply_indices env j is ≡ Sound e → FromRoot q e
  indices_kept s.NoIndices q j k e h = k e h
  indices_kept (s.MoreIndices at i is) q j k e h = indices_kept is q (both (then_judge j (c2_array env at)) (judge env mode.Value i) (c2_index env (first_token i))) one e h
    where
      one : (e : Entity) → both (then_judge j (c2_array env at)) (judge env mode.Value i) (c2_index env (first_token i)) ≡ Sound e → FromRoot q e
      one e h =
          let parts : (part : ArrayPart) × (u : ℕ) × (then_judge j (c2_array env at) ≡ Sound part) × (judge env mode.Value i ≡ Sound u) × (c2_index env (first_token i) part u ≡ Sound e) =
          both_sound (then_judge j (c2_array env at)) (judge env mode.Value i) (c2_index env (first_token i)) e h in
          let root : (e0 : Entity) × (j ≡ Sound e0) × (c2_array env at e0 ≡ Sound parts.0) = then_sound j (c2_array env at) parts.0 parts.2 in
          subst (FromRoot q) (provided_sound (agree env parts.0.index parts.1) C2 (first_token i) (entity.Variable parts.0.element parts.0.access) e parts.4).1
          (part_kept q at root.0 parts.0 (k root.0 root.1) root.2)

  pub selectors_kept : (ss : s.Selectors) (q : Access) (j : Judged Entity) → ((e : Entity) → j ≡ Sound e → FromRoot q e) → (e : Entity) → apply_selectors env j ss ≡ Sound e → FromRoot q e
  selectors_kept s.NoSelectors q j k e h = k e h
  selectors_kept (s.MoreSelectors (s.Field at x) ss) q j k e h = selectors_kept ss q (then_judge j (member_of env at x)) one e h
    where
      one : (e : Entity) → then_judge j (member_of env at x) ≡ Sound e → FromRoot q e
      one e h =
          let root : (e0 : Entity) × (j ≡ Sound e0) × (member_of env at x e0 ≡ Sound e) = then_sound j (member_of env at x) e h in
          member_kept q at x root.0 e (k root.0 root.1) root.2
  selectors_kept (s.MoreSelectors (s.Indexed is) ss) q j k e h = selectors_kept ss q (apply_indices env j is) (indices_kept is q j k) e h

  -- nothing sound can be selected from something that isn't sound
  pub indices_sound : (is : s.Indices) (j : Judged Entity) (e : Entity) → ((e0 : Entity) → j ≡ Sound e0 → ⊥) → apply_indices env j is ≡ Sound e → ⊥
  indices_sound s.NoIndices j e k h = k e h
  indices_sound (s.MoreIndices at i is) j e k h = indices_sound is (both (then_judge j (c2_array env at)) (judge env mode.Value i) (c2_index env (first_token i))) e
      (λ e1 g. k (then_sound j (c2_array env at) _ (both_sound (then_judge j (c2_array env at)) (judge env mode.Value i) (c2_index env (first_token i)) e1 g).2).0
      (then_sound j (c2_array env at) _ (both_sound (then_judge j (c2_array env at)) (judge env mode.Value i) (c2_index env (first_token i)) e1 g).2).1) h

  pub selectors_sound : (ss : s.Selectors) (j : Judged Entity) (e : Entity) → ((e0 : Entity) → j ≡ Sound e0 → ⊥) → apply_selectors env j ss ≡ Sound e → ⊥
  selectors_sound s.NoSelectors j e k h = k e h
  selectors_sound (s.MoreSelectors (s.Field at x) ss) j e k h = selectors_sound ss (then_judge j (member_of env at x)) e
      (λ e1 g. k (then_sound j (member_of env at x) e1 g).0 (then_sound j (member_of env at x) e1 g).1) h
  selectors_sound (s.MoreSelectors (s.Indexed is) ss) j e k h = selectors_sound ss (apply_indices env j is) e (λ e1 g. indices_sound is j e1 k g) h

  -- a variable that may be changed
  pub record ChangeableRoot (x : Identifier) : Type 0 where
    pub type : ℕ
    pub access : Access
    pub is : c1_named env x ≡ Sound (entity.Variable type access)
    pub changeable : is_changeable access ≡ true

  pub root_of : (x : Identifier) (ss : s.Selectors) (e : Entity) → c10_designator env (s.Designate x ss) ≡ [] → c1_named env x ≡ Sound e → ChangeableRoot x
  root_of x ss e h is = go e is (sym (ap (is_variable env ss) is) ∙ holds (is_variable env ss (c1_named env x)) C10 x.at h)
    where
      go : (e : Entity) → c1_named env x ≡ Sound e → is_variable env ss (Sound e) ≡ true → ChangeableRoot x
      go (entity.Variable t acc) is h = record { type = t; access = acc; is = is; changeable = (and_parts (is_changeable acc) _ h).0 }
      go _ is h = absurd (true≢false (sym h))

  pub part_of : (x : Identifier) (ss : s.Selectors) (e : Entity) → c10_designator env (s.Designate x ss) ≡ [] → designate env (s.Designate x ss) ≡ Sound e
      → (q : Access) × (is_changeable q ≡ true) × FromRoot q e
  part_of x ss e h sound = go (c1_named env x) refl
    where
      first : (q : Access) (e0 : Entity) → FromRoot q e0 → c1_named env x ≡ Sound e0 → (e : Entity) → then_judge (c1_named env x) (before_selectors env x ss) ≡ Sound e → FromRoot q e
      first q e0 k is e g =
          let inner : (e1 : Entity) × (c1_named env x ≡ Sound e1) × (before_selectors env x ss e1 ≡ Sound e) = then_sound (c1_named env x) (before_selectors env x ss) e g in
          subst (FromRoot q) (sound_same e0 inner.0 (sym is ∙ inner.1) ∙ before_same env x ss inner.0 e inner.2) k

      go : (j : Judged Entity) → c1_named env x ≡ j → (q : Access) × (is_changeable q ≡ true) × FromRoot q e
      go (Sound e0) is =
          let root : ChangeableRoot x = root_of x ss e0 h is in (
            root.access,
            root.changeable,
            selectors_kept ss root.access (then_judge (c1_named env x) (before_selectors env x ss)) (first root.access (entity.Variable root.type root.access) refl root.is) e sound,
          )
      go (Broken w ws) is =
          absurd (selectors_sound ss (then_judge (c1_named env x) (before_selectors env x ss)) e (λ e0 g. cc (is, (then_sound (c1_named env x) (before_selectors env x ss) e0 g).1)) sound)

  pub changeable_root : (x : Identifier) (ss : s.Selectors) (e : Entity) → c10_designator env (s.Designate x ss) ≡ [] → designate env (s.Designate x ss) ≡ Sound e → ChangeableRoot x
  changeable_root x ss e h sound = go (c1_named env x) refl
    where
      go : (j : Judged Entity) → c1_named env x ≡ j → ChangeableRoot x
      go (Sound e0) is = root_of x ss e0 h is
      go (Broken w ws) is =
          absurd (selectors_sound ss (then_judge (c1_named env x) (before_selectors env x ss)) e (λ e0 g. cc (is, (then_sound (c1_named env x) (before_selectors env x ss) e0 g).1)) sound)

  pub root_part : (d : s.Designator) (e : Entity) → c10_designator env d ≡ [] → designate env d ≡ Sound e → (q : Access) × (is_changeable q ≡ true) × FromRoot q e
  root_part (s.Designate x ss) e h sound = part_of x ss e h sound

  -- a designator of a variable that may be changed
  pub varied_of : (d : s.Designator) (z : a.Designator) (e : Entity) (t : ℕ) → DesignatorAs G env rs p z e → (q : Access) × (is_changeable q ≡ true) × FromRoot q e
      → value_of env mode.Variable d e ≡ Sound t → VariablePart G env rs p (a.Use z) t
  varied_of d z (entity.Variable u acc) t k root h =
      let same : u ≡ t = (provided_sound (is_used_as_component mode.Variable env u) (sort_rule mode.Variable d) (last_name d).at u t h).1 in
      record {
        designator = z;
        is = refl;
        access = acc;
        part = subst (λ n. PartAs G env rs p z n acc) same k;
        changeable = ap is_changeable root.2 ∙ root.1;
      }
  varied_of d z (entity.Entry r) t k root h =
      let one : (g : Gives) × (function_alone env mode.Variable d (entity.Entry r) ≡ Sound g) × (Sound (given_type env integer g) ≡ Sound t) =
      then_sound (function_alone env mode.Variable d (entity.Entry r)) (λ g. Sound (given_type env integer g)) t h in
      absurd (cc one.1)
  varied_of d z _ t k root h = absurd root.2
