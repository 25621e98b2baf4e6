-- What is selected from a variable, by the rules and by the meaning.
use Rattle.std.proofs.Common.{◌≡◌, inl, inr, ℕ, true, false, [], Option, Some, None, get_or, slice_get, refl, ap, sym, subst, ◌∙◌}
use Rattle.std.proofs.lemmas.Bool.{true≢false}
use Rattle.cp_model.specs.Syntax as s
use Rattle.cp_model.specs.Abstract as a
use Rattle.cp_model.specs.declared.tree.Identifier.{Identifier}
use Rattle.cp_model.specs.declared.rules.Rule.TheVariants.{C2}
use Rattle.cp_model.specs.declared.rules.Access.{Access}
use Rattle.cp_model.specs.declared.rules.Entity.{Entity}
use Rattle.cp_model.specs.declared.rules.Entity.TheVariants as entity
use Rattle.cp_model.specs.declared.rules.Structure.{Structure}
use Rattle.cp_model.specs.declared.rules.Structure.TheVariants as structure
use Rattle.cp_model.specs.declared.rules.Member.{Member}
use Rattle.cp_model.specs.declared.rules.Member.TheVariants as member
use Rattle.cp_model.specs.declared.rules.ArrayPart.{ArrayPart}
use Rattle.cp_model.specs.RulesJudged.{Sound, then_judge}
use Rattle.cp_model.specs.RulesEnvironment.{Environment, Text, agree, c1_named, c4_c9_named, members_in, resolve, row_of, system_row}
use Rattle.cp_model.specs.RulesNames.{array_in, before_selectors, c2_array, c2_index, member_among, member_named, member_of}
use Rattle.cp_model.specs.Types.{ArrayOf, ComponentOf, GlobalScope, Members, NoType, Queue, RecordOf, ResolvedType, Simple}
use Rattle.cp_model.specs.Declarations.{is_component}
use Rattle.cp_model.specs.Places.{field_type}
use Rattle.cp_model.specs.Components.{Component, component_named}
use Rattle.cp_model.specs.Calls.{Callee, callee, routine_named}
use Rattle.cp_model.specs.Names.{lookup}
use Rattle.cp_law_typing.specs.StaticTypes.{element_type, expression_type, place_type}
use Rattle.cp_law_typing.specs.Judgement as typed
use Rattle.cp_law_typing.specs.Judgement.{Agree, IsOfBase, Place, TypedPlace, has_queues}
use Rattle.cp_model.proofs.Judging.{also_sound, provided_sound, sound_same, then_sound}
use Rattle.cp_law_typing.proofs.TableMeanings.{IsIndex, RecordAs, RoutineOf, StructureAs, SystemAs, TypeAt, Types}
use Rattle.cp_law_typing.proofs.Visible.{ComponentFor, DesignatorAs, EntityAs, EntryAs, ExpressionAs, FieldAs, PartAs, Visible, agree_as, agree_value, component_of, field_found, is_right, plain_as}

-- the entity of a name that is sound
pub resolved : (x : Identifier) (o : Option Entity) (e : Entity) → resolve x o ≡ Sound e → o ≡ Some e
resolved x None e h = absurd (cc)
resolved x (Some entity.Hidden) e h = absurd (cc)
resolved x (Some (entity.Broken v)) e h = absurd (cc)
resolved x (Some (entity.Constant b n)) e h = ap (λ z. Some z) (sound_same _ e h)
resolved x (Some (entity.Type t)) e h = ap (λ z. Some z) (sound_same _ e h)
resolved x (Some (entity.Variable t q)) e h = ap (λ z. Some z) (sound_same _ e h)
resolved x (Some (entity.Routine r)) e h = ap (λ z. Some z) (sound_same _ e h)
resolved x (Some (entity.Entry r)) e h = ap (λ z. Some z) (sound_same _ e h)
resolved x (Some (entity.Standard d)) e h = ap (λ z. Some z) (sound_same _ e h)
resolved x (Some entity.UnfinishedConstant) e h = ap (λ z. Some z) (sound_same _ e h)
resolved x (Some entity.UnfinishedType) e h = ap (λ z. Some z) (sound_same _ e h)
resolved x (Some (entity.UnfinishedRoutine r)) e h = ap (λ z. Some z) (sound_same _ e h)

pub before_same : (env : Environment) (x : Identifier) (ss : s.Selectors) (e0 e : Entity) → before_selectors env x ss e0 ≡ Sound e → e0 ≡ e
before_same env x s.NoSelectors e0 e h = sound_same e0 e h
before_same env x (s.MoreSelectors y ys) e0 e h =
    sound_same e0 e (also_sound (c4_c9_named env x e0) _ e h)

module _ (G : GlobalScope → Type 0) (env : Environment) (rs : Types) (p : Place) (v : Visible G env rs p) where
  -- a sound name represents what it means
  pub named_as : (x : Identifier) (e : Entity) → c1_named env x ≡ Sound e → EntityAs G env rs p x.name e
  named_as x e h = v.names x.name e (resolved x (lookup x.name env.names) e h)

  pub first_as : (x : Identifier) (ss : s.Selectors) (e : Entity) → then_judge (c1_named env x) (before_selectors env x ss) ≡ Sound e
      → DesignatorAs G env rs p (a.Plain x.name) e
  first_as x ss e h =
      let is : (e0 : Entity) × (c1_named env x ≡ Sound e0) × (before_selectors env x ss e0 ≡ Sound e) = then_sound (c1_named env x) (before_selectors env x ss) e h in
      plain_as G env rs p x.name e (named_as x e (is.1 ∙ ap (λ z. Sound z) (before_same env x ss is.0 e is.2)))

  -- ---- what is after a point

  -- the routine after a component's `.`
  abbrev entry_in : Text → Option Component → Option Callee
  entry_in f o = elim o [
    | None ↦ None
    | Some c ↦ elim (routine_named f c.system) [ None ↦ None | Some r ↦ Some (record { routine = r; of = Some c }) ]
  ]

  abbrev routine_in : Component → Option a.Routine → Option Callee
  routine_in c o = elim o [ None ↦ None | Some r ↦ Some (record { routine = r; of = Some c }) ]

  no_call_behind : (d : a.Designator) (f : Text) (acc : Access) (r : ResolvedType) → ComponentFor G env rs p d acc r → is_component r ≡ false
      → callee p.env (a.Part d f) ≡ None
  no_call_behind (a.Plain z) f acc (ComponentOf y inner) h e = absurd (true≢false e)
  no_call_behind (a.Plain z) f acc (Simple b low high start) h e = ap (entry_in f) h
  no_call_behind (a.Plain z) f acc (ArrayOf low high q) h e = ap (entry_in f) h
  no_call_behind (a.Plain z) f acc (RecordOf ps) h e = ap (entry_in f) h
  no_call_behind (a.Plain z) f acc Queue h e = ap (entry_in f) h
  no_call_behind (a.Plain z) f acc NoType h e = ap (entry_in f) h
  no_call_behind (a.Part d z) f acc r h e = refl
  no_call_behind (a.At d i) f acc r h e = refl

  field_as : (d : a.Designator) (x : Identifier) (t k : ℕ) (acc : Access) (ps : Members) (e : Entity) (q : PartAs G env rs p d t acc) → q.type ≡ RecordOf ps
      → RecordAs env rs k ps → member_among env t x acc (Some (get_or env.members k [])) ≡ Sound e → DesignatorAs G env rs p (a.Part d x.name) e
  field_as d x t k acc ps e q is r h = go (lookup x.name (get_or env.members k [])) refl h
    where
      found : (m : Member) → lookup x.name (get_or env.members k []) ≡ Some m → FieldAs rs x.name m ps
      found m g = field_found rs x.name m r.fields ps r.meets (sym (ap (lookup x.name) r.are) ∙ g)

      is_place : place_type p.env d ≡ RecordOf ps
      is_place = q.place ∙ is

      field : (u : ℕ) (m : Member) → m ≡ member.Field u → (f : FieldAs rs x.name m ps) → PartAs G env rs p (a.Part d x.name) u acc
      field u m same f =
          let number : f.number ≡ u = ap number_in (sym f.is ∙ same) in
          let type : place_type p.env (a.Part d x.name) ≡ f.type = ap (field_type x.name) is_place ∙ f.named in
          record {
            type = f.type;
            there = subst (λ n. TypeAt rs n f.type) number f.there;
            place = type;
            value = type;
            typed_place = (q.typed_place, record { members = ps; is = is_place; type = f.type; found = f.found });
            typed_use = (q.typed_place, record { members = ps; is = is_place; type = f.type; found = f.found });
            no_call = no_call_behind d x.name acc q.type q.component (ap is_component is);
            component = f.alone;
            changeable = q.changeable;
            free = λ h. f.free;
          }
        where
          number_in : Member → ℕ
          number_in (member.Field n) = n
          number_in (member.Routine n) = n

      go : (o : Option Member) → lookup x.name (get_or env.members k []) ≡ o → member_named env x acc o ≡ Sound e → DesignatorAs G env rs p (a.Part d x.name) e
      go None g h = absurd (cc)
      go (Some (member.Field u)) g h = subst (DesignatorAs G env rs p (a.Part d x.name)) (sound_same _ e h) (field u (member.Field u) refl (found (member.Field u) g))
      go (Some (member.Routine n)) g h = let f : FieldAs rs x.name (member.Routine n) ps = found (member.Routine n) g in absurd (cc f.is)

  entry_as : (d : a.Designator) (x : Identifier) (t n : ℕ) (acc : Access) (y : a.System) (inner : Members) (e : Entity) (q : PartAs G env rs p d t acc)
      → q.type ≡ ComponentOf y inner → SystemAs G env rs n y → member_among env t x acc (Some (get_or env.members (system_row env n).members [])) ≡ Sound e
      → DesignatorAs G env rs p (a.Part d x.name) e
  entry_as (a.Plain z) x t n acc y inner e q is r h = go (lookup x.name (get_or env.members (system_row env n).members [])) refl h
    where
      component : Component
      component = record { name = z; system = y; is_parameter = is_right acc }

      named : component_named p.env z ≡ Some component
      named = q.component ∙ ap (component_of z acc) is

      defined : (i : ℕ) × (slice_get p.systems i ≡ Some y)
      defined = v.systems t y inner (subst (TypeAt rs t) is q.there)

      entry : (k : ℕ) → RoutineOf G env rs k x.name y → EntryAs G env rs p (a.Part (a.Plain z) x.name) k
      entry k f = record {
        routine = f.routine;
        component = component;
        named = ap (entry_in x.name) named ∙ ap (routine_in component) f.named;
        may = λ is_entry. (defined.0, f.place, defined.1, f.there, sym f.meets.entry ∙ is_entry);
        meets = f.meets;
        need = f.need;
      }

      go : (o : Option Member) → lookup x.name (get_or env.members (system_row env n).members []) ≡ o → member_named env x acc o ≡ Sound e
          → DesignatorAs G env rs p (a.Part (a.Plain z) x.name) e
      go None g h = absurd (cc)
      go (Some (member.Field u)) g h =
          let f : (k : ℕ) × (member.Field u ≡ member.Routine k) × RoutineOf G env rs k x.name y = r.routines x.name (member.Field u) g in absurd (cc f.1)
      go (Some (member.Routine k)) g h =
          let f : (j : ℕ) × (member.Routine k ≡ member.Routine j) × RoutineOf G env rs j x.name y = r.routines x.name (member.Routine k) g in
          let same : f.0 ≡ k = ap number_in (sym f.1) in
          subst (DesignatorAs G env rs p (a.Part (a.Plain z) x.name)) (sound_same (entity.Entry k) e h) (entry k (subst (λ j. RoutineOf G env rs j x.name y) same f.2))
        where
          number_in : Member → ℕ
          number_in (member.Field n) = n
          number_in (member.Routine n) = n
  entry_as (a.Part d z) x t n acc y inner e q is r h = absurd (true≢false (sym (ap is_component is) ∙ q.component))
  entry_as (a.At d i) x t n acc y inner e q is r h = absurd (true≢false (sym (ap is_component is) ∙ q.component))

  pub member_as : (d : a.Designator) (at : ℕ) (x : Identifier) (e0 e : Entity) → DesignatorAs G env rs p d e0 → member_of env at x e0 ≡ Sound e
      → DesignatorAs G env rs p (a.Part d x.name) e
  member_as d at x (entity.Variable t acc) e q h = go (row_of env t).structure q.type refl (v.tables.rows t q.type q.there).structure h
    where
      go : (st : Structure) (r : ResolvedType) → q.type ≡ r → StructureAs G env rs st r → member_among env at x acc (members_in env st) ≡ Sound e
          → DesignatorAs G env rs p (a.Part d x.name) e
      go (structure.Record k) (RecordOf ps) is m h = field_as d x t k acc ps e q is m (among_same h)
        where
          among_same : member_among env at x acc (Some (get_or env.members k [])) ≡ Sound e → member_among env t x acc (Some (get_or env.members k [])) ≡ Sound e
          among_same h = h
      go (structure.System n) (ComponentOf y inner) is m h = entry_as d x t n acc y inner e q is m h
      go (structure.Simple base low high) r is m h = absurd (cc)
      go (structure.Array i k) r is m h = absurd (cc)
      go structure.Queue r is m h = absurd (cc)
      go (structure.Record k) _ is m h = absurd m
      go (structure.System n) _ is m h = absurd m
  member_as d at x (entity.Constant b n) e q h = absurd (cc)
  member_as d at x (entity.Type t) e q h = absurd (cc)
  member_as d at x (entity.Routine r) e q h = absurd (cc)
  member_as d at x (entity.Entry r) e q h = absurd (cc)
  member_as d at x (entity.Standard f) e q h = absurd (cc)
  member_as d at x entity.UnfinishedConstant e q h = absurd (cc)
  member_as d at x entity.UnfinishedType e q h = absurd (cc)
  member_as d at x (entity.UnfinishedRoutine r) e q h = absurd (cc)
  member_as d at x entity.Hidden e q h = absurd (cc)
  member_as d at x (entity.Broken w) e q h = absurd (cc)

  -- ---- elements

  element_as : (d : a.Designator) (i : a.Expression) (t u : ℕ) (acc : Access) (part : ArrayPart) (st : Structure) (r : ResolvedType) (q : PartAs G env rs p d t acc)
      → q.type ≡ r → StructureAs G env rs st r → (at : ℕ) → array_in at acc st ≡ Sound part → ExpressionAs G env rs p i u → agree env part.index u ≡ true
      → PartAs G env rs p (a.At d i) part.element part.access
  element_as d i t u acc part (structure.Array n k) (ArrayOf lo hi r) q is m at h index fits =
      let same : record { index = n; element = k; access = acc } ≡ part = sound_same (record { index = n; element = k; access = acc }) part h in
      let bounds : IsIndex rs n lo hi = m.0 in
      let agrees : Agree (Simple bounds.0 lo hi bounds.1) index.type =
      agree_as G env rs v.tables n u (Simple bounds.0 lo hi bounds.1) index.type bounds.2 index.there (ap (λ z. agree env z.index u) same ∙ fits) in
      let base : (b : a.BaseType) × IsOfBase b (expression_type p.env i) = of_some (Simple bounds.0 lo hi bounds.1) (expression_type p.env i) refl (agree_value _ index.type _ agrees index.same) in
      let array : place_type p.env d ≡ ArrayOf lo hi r = q.place ∙ is in
      subst (λ z. PartAs G env rs p (a.At d i) z.element z.access) same (record {
        type = r;
        there = m.1;
        place = ap element_type array;
        value = ap element_type array;
        typed_place = (q.typed_place, index.typed, record { low = lo; high = hi; element = r; is = array }, base);
        typed_use = (q.typed_place, index.typed, record { low = lo; high = hi; element = r; is = array }, base);
        no_call = refl;
        component = m.2;
        changeable = q.changeable;
        free = λ h. sym (ap has_queues is) ∙ q.free h;
      })
    where
      of_some : (z w : ResolvedType) → typed.is_structured z ≡ false → Agree z w → (b : a.BaseType) × IsOfBase b w
      of_some z w e (inl g) = (g.0, g.2)
      of_some z w e (inr g) = absurd (true≢false (sym g.1 ∙ e))
  element_as d i t u acc part (structure.Simple base low high) r q is m at h index fits = absurd (cc)
  element_as d i t u acc part (structure.Record k) r q is m at h index fits = absurd (cc)
  element_as d i t u acc part structure.Queue r q is m at h index fits = absurd (cc)
  element_as d i t u acc part (structure.System n) r q is m at h index fits = absurd (cc)
  element_as d i t u acc part (structure.Array n k) _ q is m at h index fits = absurd m

  pub index_as : (d : a.Designator) (i : a.Expression) (at place u : ℕ) (part : ArrayPart) (e0 e : Entity) → DesignatorAs G env rs p d e0 → c2_array env at e0 ≡ Sound part
      → ExpressionAs G env rs p i u → c2_index env place part u ≡ Sound e → DesignatorAs G env rs p (a.At d i) e
  index_as d i at place u part (entity.Variable t acc) e q h index g =
      let fits : (agree env part.index u ≡ true) × (entity.Variable part.element part.access ≡ e) =
      provided_sound (agree env part.index u) C2 place (entity.Variable part.element part.access) e g in
      subst (DesignatorAs G env rs p (a.At d i)) fits.1
      (element_as d i t u acc part (row_of env t).structure q.type q refl (v.tables.rows t q.type q.there).structure at h index fits.0)
  index_as d i at place u part (entity.Constant b n) e q h index g = absurd (cc)
  index_as d i at place u part (entity.Type t) e q h index g = absurd (cc)
  index_as d i at place u part (entity.Routine r) e q h index g = absurd (cc)
  index_as d i at place u part (entity.Entry r) e q h index g = absurd (cc)
  index_as d i at place u part (entity.Standard f) e q h index g = absurd (cc)
  index_as d i at place u part entity.UnfinishedConstant e q h index g = absurd (cc)
  index_as d i at place u part entity.UnfinishedType e q h index g = absurd (cc)
  index_as d i at place u part (entity.UnfinishedRoutine r) e q h index g = absurd (cc)
  index_as d i at place u part entity.Hidden e q h index g = absurd (cc)
  index_as d i at place u part (entity.Broken w) e q h index g = absurd (cc)
