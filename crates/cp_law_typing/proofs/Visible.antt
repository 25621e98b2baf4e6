-- What the names of statements represent, by the rules and by the meaning, and which types agree.
use Rattle.std.proofs.Common.{◌≡◌, ◌<◌, ◌⊎◌, inl, inr, ℕ, ℤ, Bool, true, false, ◌&&◌, [], ◌∷◌, Option, Some, None, if◌then◌else◌, nat_eq, eqb-true, slice_get, refl, ap, sym, subst, ◌∙◌, bytes_eq}
use Rattle.std.proofs.lemmas.Bool.{true≢false, and_parts}
use Rattle.cp_model.specs.Abstract as a
use Rattle.cp_model.specs.Erase as erase
use Rattle.cp_model.specs.declared.rules.Access.{Access}
use Rattle.cp_model.specs.declared.rules.Access.TheVariants as access
use Rattle.cp_model.specs.declared.rules.Entity.{Entity}
use Rattle.cp_model.specs.declared.rules.Entity.TheVariants as entity
use Rattle.cp_model.specs.declared.rules.Structure.{Structure}
use Rattle.cp_model.specs.declared.rules.Structure.TheVariants as structure
use Rattle.cp_model.specs.declared.rules.Member.{Member}
use Rattle.cp_model.specs.declared.rules.Member.TheVariants as member
use Rattle.cp_model.specs.declared.rules.Returns.TheVariants as returns
use Rattle.cp_model.specs.declared.rules.RoutineRow.{RoutineRow}
use Rattle.cp_model.specs.RulesEnvironment.{Environment, Text, agree, base_in, base_of, bases_agree, is_base, is_in_entry, is_in_routine, is_structured, routine_of, row_of}
use Rattle.cp_model.specs.RulesTypes.{FieldList, field_members}
use Rattle.cp_model.specs.RulesNames.{is_changeable}
use Rattle.cp_model.specs.Types.{ArrayOf, ComponentOf, GlobalScope, Members, MoreMembers, NoMembers, RecordOf, ResolvedType, Simple, base_of_type, full_range}
use Rattle.cp_model.specs.Declarations.{is_component}
use Rattle.cp_model.specs.Environments.{Frame, IsConstant, meaning}
use Rattle.cp_model.specs.Places.{member_type}
use Rattle.cp_model.specs.Components.{Component, component_named}
use Rattle.cp_model.specs.Calls.{callee}
use Rattle.cp_model.specs.Names.{lookup}
use Rattle.cp_law_typing.specs.StaticTypes.{expression_type, is_clock, own_value_type, place_type}
use Rattle.cp_law_typing.specs.Judgement as typed
use Rattle.cp_law_typing.specs.Judgement.{Agree, IsChangeable, IsOfBase, MayBeCalled, Place, TypedExpression, TypedPlace, TypedUse, find_member, first_name, has_queues}
use Rattle.cp_law_typing.proofs.Names.{}
use Rattle.cp_law_typing.proofs.TableMeanings.{BaseAt, FieldsAs, NamesAs, NeedAs, RoutineAs, StructureAs, Tables, TypeAt, Types, standard_name}

-- ---- names

abbrev pub is_right : Access → Bool
is_right access.Passive = true
is_right _ = false

-- the component that a name of this type means
abbrev pub component_of : Text → Access → ResolvedType → Option Component
component_of x acc (ComponentOf y inner) = Some (record { name = x; system = y; is_parameter = is_right acc })
component_of x acc _ = None

module _ (G : GlobalScope → Type 0) (env : Environment) (rs : Types) (p : Place) where
  -- a component is reached only by its bare name
  abbrev pub ComponentFor : a.Designator → Access → ResolvedType → Type 0
  ComponentFor (a.Plain x) acc r = component_named p.env x ≡ component_of x acc r
  ComponentFor (a.Part d x) acc r = is_component r ≡ false
  ComponentFor (a.At d e) acc r = is_component r ≡ false

  -- a variable, or a part of one, of this type
  pub record PartAs (d : a.Designator) (t : ℕ) (acc : Access) : Type 0 where
    pub type : ResolvedType
    pub there : TypeAt rs t type
    pub place : place_type p.env d ≡ type
    pub value : own_value_type p.env d ≡ type
    pub typed_place : TypedPlace p d
    pub typed_use : TypedUse p d
    pub no_call : callee p.env d ≡ None
    pub component : ComponentFor d acc type
    pub changeable : is_changeable acc ≡ true → IsChangeable p.env d
    -- a part of a variable without queues has no queues
    pub free : has_queues (place_type p.env (a.Plain (first_name d))) ≡ false → has_queues type ≡ false

  -- a routine that is called by its bare name
  pub record OwnAs (x : Text) (r : ℕ) : Type 0 where
    pub routine : a.Routine
    pub named : callee p.env (a.Plain x) ≡ Some (record { routine = routine; of = None })
    pub place : ℕ
    pub before : place < p.routines
    pub there : slice_get p.env.system.routines place ≡ Some routine
    pub meets : RoutineAs G env rs (routine_of env r) routine
    pub need : NeedAs G p.env.system (routine_of env r).need routine

  -- an entry of a component
  pub record EntryAs (d : a.Designator) (r : ℕ) : Type 0 where
    pub routine : a.Routine
    pub component : Component
    pub named : callee p.env d ≡ Some (record { routine = routine; of = Some component })
    pub may : (routine_of env r).entry ≡ true → MayBeCalled p routine (Some component)
    pub meets : RoutineAs G env rs (routine_of env r) routine
    pub need : NeedAs G component.system (routine_of env r).need routine

  -- the function that is being defined has a variable for its result
  abbrev pub ResultAs : Text → RoutineRow → Type 0
  ResultAs x row = (t : ℕ) → row.returns ≡ returns.Value t → PartOfResult t
    where
      PartOfResult : ℕ → Type 0
      PartOfResult t = (r : ResolvedType) × TypeAt rs t r × (place_type p.env (a.Plain x) ≡ r) × TypedPlace p (a.Plain x) × IsChangeable p.env (a.Plain x) × (has_queues r ≡ false)

  pub record ConstantHere (x : Text) (base : ℕ) (n : ℤ) : Type 0 where
    pub of : a.BaseType
    pub there : BaseAt rs base of
    pub meant : meaning p.env x ≡ IsConstant of n
    pub no_call : callee p.env (a.Plain x) ≡ None
    pub no_clock : is_clock x ≡ false

  abbrev pub EntityAs : Text → Entity → Type 0
  EntityAs x (entity.Constant base n) = ConstantHere x base n
  EntityAs x (entity.Variable t acc) = PartAs (a.Plain x) t acc
  EntityAs x (entity.Routine r) = OwnAs x r
  EntityAs x (entity.Entry r) = ⊥
  EntityAs x (entity.Standard d) = (x ≡ standard_name d) × (callee p.env (a.Plain x) ≡ None)
  EntityAs x (entity.UnfinishedRoutine row) = ResultAs x row
  EntityAs x _ = Unit {0}

  -- the region of the rules agrees with the place of the meaning
  pub record RegionAs : Type 0 where
    pub sort : erase.sort_of env.region.sort ≡ p.env.system.sort
    pub routine : is_in_routine env.region.part ≡ true → (f : Frame) × (p.env.frame ≡ Some f)
    pub entry : is_in_entry env.region.part ≡ true → (f : Frame) × (p.env.frame ≡ Some f) × (f.routine.entry ≡ true)
    pub body : is_in_routine env.region.part ≡ false → p.env.frame ≡ None

  pub record Visible : Type 0 where
    pub names : (x : Text) (e : Entity) → lookup x env.names ≡ Some e → EntityAs x e
    pub globals : NamesAs G rs env.names
    pub tables : Tables G env rs
    pub scope : G p.env.globals
    pub systems : (t : ℕ) (y : a.System) (inner : Members) → TypeAt rs t (ComponentOf y inner) → (i : ℕ) × (slice_get p.systems i ≡ Some y)
    pub region : RegionAs

  -- ---- what designators represent

  abbrev pub DesignatorAs : a.Designator → Entity → Type 0
  DesignatorAs d (entity.Variable t acc) = PartAs d t acc
  DesignatorAs d (entity.Entry r) = EntryAs d r
  DesignatorAs d e = (x : Text) × (d ≡ a.Plain x) × EntityAs x e

  pub plain_as : (x : Text) (e : Entity) → EntityAs x e → DesignatorAs (a.Plain x) e
  plain_as x (entity.Variable t acc) h = h
  plain_as x (entity.Entry r) h = absurd h
  plain_as x (entity.Constant base n) h = (x, refl, h)
  plain_as x (entity.Type t) h = (x, refl, h)
  plain_as x (entity.Routine r) h = (x, refl, h)
  plain_as x (entity.Standard d) h = (x, refl, h)
  plain_as x entity.UnfinishedConstant h = (x, refl, h)
  plain_as x entity.UnfinishedType h = (x, refl, h)
  plain_as x (entity.UnfinishedRoutine row) h = (x, refl, h)
  plain_as x entity.Hidden h = (x, refl, h)
  plain_as x (entity.Broken v) h = (x, refl, h)

  -- ---- what values are of

  abbrev pub SameValue : ResolvedType → ResolvedType → Type 0
  SameValue r q = (r ≡ q) ⊎ ((b : a.BaseType) × IsOfBase b r × IsOfBase b q)

  -- a value of type t, of which the meaning may know only the base
  pub record ExpressionAs (e : a.Expression) (t : ℕ) : Type 0 where
    pub typed : TypedExpression p e
    pub type : ResolvedType
    pub there : TypeAt rs t type
    pub same : SameValue type (expression_type p.env e)

-- ---- bases

pub some_same : {A : Type 0} (o : Option A) (x y : A) → o ≡ Some x → o ≡ Some y → x ≡ y
some_same o x y h g = cc

pub full_of : (b : a.BaseType) → IsOfBase b (full_range b)
full_of b = record { low = _; high = _; start = _; is = refl }

pub base_is : (b c : a.BaseType) (r : ResolvedType) → IsOfBase b r → IsOfBase c r → b ≡ c
base_is b c r h g = ap base_of_type (sym h.is ∙ g.is)

pub same_base : (b : a.BaseType) (r q : ResolvedType) → (r ≡ q) ⊎ ((c : a.BaseType) × IsOfBase c r × IsOfBase c q) → IsOfBase b r → IsOfBase b q
same_base b r q (inl e) h = subst (IsOfBase b) e h
same_base b r q (inr e) h = subst (λ c. IsOfBase c q) (sym (base_is b e.0 r h e.1)) e.2

pub is_base_some : (w : ℕ) (o : Option ℕ) → is_base w o ≡ true → o ≡ Some w
is_base_some w (Some c) h = ap (λ k. Some k) (sym (eqb-true w c h))
is_base_some w None h = absurd (true≢false (sym h))

module _ (G : GlobalScope → Type 0) (env : Environment) (rs : Types) (tables : Tables G env rs) where
  in_structure : (st : Structure) (r : ResolvedType) (k : ℕ) → StructureAs G env rs st r → base_in st ≡ Some k → (b : a.BaseType) × IsOfBase b r × BaseAt rs k b
  in_structure (structure.Simple base low high) (Simple b lo hi start) k h e =
      (b, record { low = lo; high = hi; start = start; is = refl }, subst (λ n. BaseAt rs n b) (some_same (Some base) base k refl e) h.2)
  in_structure (structure.Array i t) r k h e = absurd (cc)
  in_structure (structure.Record n) r k h e = absurd (cc)
  in_structure structure.Queue r k h e = absurd (cc)
  in_structure (structure.System y) r k h e = absurd (cc)
  in_structure (structure.Simple base low high) _ k h e = absurd h

  -- a type with a base by the rules has that base by the meaning
  pub base_for : (t k : ℕ) (r : ResolvedType) → TypeAt rs t r → base_of env t ≡ Some k → (b : a.BaseType) × IsOfBase b r × BaseAt rs k b
  base_for t k r there h = in_structure (row_of env t).structure r k (tables.rows t r there).structure h

  pub of_base : (t w : ℕ) (r : ResolvedType) (b : a.BaseType) → TypeAt rs t r → BaseAt rs w b → is_base w (base_of env t) ≡ true → IsOfBase b r
  of_base t w r b there base h =
      let is : (c : a.BaseType) × IsOfBase c r × BaseAt rs w c = base_for t w r there (is_base_some w (base_of env t) h) in
      subst (λ c. IsOfBase c r) (ap base_of_type (some_same (slice_get rs w) (full_range is.0) (full_range b) is.2 base)) is.1

  -- ---- types that agree

  structured_too : (st : Structure) (r : ResolvedType) → StructureAs G env rs st r → is_structured st ≡ true → typed.is_structured r ≡ true
  structured_too (structure.Array i t) (ArrayOf lo hi q) h e = refl
  structured_too (structure.Record n) (RecordOf ps) h e = refl
  structured_too (structure.Simple base low high) r h e = absurd (true≢false (sym e))
  structured_too structure.Queue r h e = absurd (true≢false (sym e))
  structured_too (structure.System y) r h e = absurd (true≢false (sym e))
  structured_too (structure.Array i t) _ h e = absurd h
  structured_too (structure.Record n) _ h e = absurd h

  pub agree_as : (t u : ℕ) (r q : ResolvedType) → TypeAt rs t r → TypeAt rs u q → agree env t u ≡ true → Agree r q
  agree_as t u r q there too h = go (base_of env t) (base_of env u) refl refl h
    where
      same_type : (nat_eq t u && is_structured (row_of env t).structure) ≡ true → Agree r q
      same_type e =
          let parts : (nat_eq t u ≡ true) × (is_structured (row_of env t).structure ≡ true) = and_parts (nat_eq t u) _ e in
          let same : t ≡ u = eqb-true t u parts.0 in
          inr (
            some_same (slice_get rs t) r q there (ap (slice_get rs) same ∙ too),
            structured_too (row_of env t).structure r (tables.rows t r there).structure parts.1,
          )

      go : (o n : Option ℕ) → base_of env t ≡ o → base_of env u ≡ n → bases_agree o n (nat_eq t u && is_structured (row_of env t).structure) ≡ true → Agree r q
      go (Some k) (Some l) e f h =
          let x : (b : a.BaseType) × IsOfBase b r × BaseAt rs k b = base_for t k r there e in
          let y : (b : a.BaseType) × IsOfBase b q × BaseAt rs l b = base_for u l q too f in
          let same : y.0 ≡ x.0 =
          ap base_of_type (some_same (slice_get rs l) (full_range y.0) (full_range x.0) y.2 (ap (slice_get rs) (sym (eqb-true k l h)) ∙ x.2)) in
          inl (x.0, x.1, subst (λ c. IsOfBase c q) same y.1)
      go (Some k) None e f h = same_type h
      go None o e f h = same_type h

-- a type that agrees with r agrees with the type of r's values
pub agree_value : (t r q : ResolvedType) → Agree t r → (r ≡ q) ⊎ ((c : a.BaseType) × IsOfBase c r × IsOfBase c q) → Agree t q
agree_value t r q (inl h) g = inl (h.0, h.1, same_base h.0 r q g h.2)
agree_value t r q (inr h) (inl e) = inr (h.0 ∙ e, h.1)
agree_value t r q (inr h) (inr e) = inl (e.0, subst (IsOfBase e.0) (sym h.0) e.1, e.2)

-- ---- fields

pub record FieldAs (rs : Types) (x : Text) (m : Member) (ps : Members) : Type 0 where
  pub number : ℕ
  pub is : m ≡ member.Field number
  pub type : ResolvedType
  pub found : find_member x ps ≡ Some type
  pub named : member_type x ps ≡ type
  pub there : TypeAt rs number type
  pub alone : is_component type ≡ false
  pub free : has_queues type ≡ false

pub field_found : (rs : Types) (x : Text) (m : Member) (fs : FieldList) (ps : Members) → FieldsAs rs fs ps → lookup x (field_members fs) ≡ Some m → FieldAs rs x m ps
field_found rs x m [] NoMembers h e = absurd (cc)
field_found rs x m (f ∷ fs) (MoreMembers y r ps) h e = go (bytes_eq x f.0) (sym (ap (bytes_eq x) h.0)) e (field_found rs x m fs ps h.2)
  where
    go : (b : Bool) → bytes_eq x y ≡ b → (if b then Some (member.Field f.1) else lookup x (field_members fs)) ≡ Some m
        → (lookup x (field_members fs) ≡ Some m → FieldAs rs x m ps) → FieldAs rs x m (MoreMembers y r ps)
    go true k e rest = record {
      number = f.1;
      is = cc;
      type = r;
      found = ap (λ d. if d then Some r else find_member x ps) k;
      named = ap (λ d. if d then r else member_type x ps) k;
      there = h.1;
      alone = h.3;
      free = h.4;
    }
    go false k e rest =
        let g : FieldAs rs x m ps = rest e in
        record {
          number = g.number;
          is = g.is;
          type = g.type;
          found = ap (λ d. if d then Some r else find_member x ps) k ∙ g.found;
          named = ap (λ d. if d then r else member_type x ps) k ∙ g.named;
          there = g.there;
          alone = g.alone;
          free = g.free;
        }
field_found rs x m [] (MoreMembers y r ps) h e = absurd h
field_found rs x m (f ∷ fs) NoMembers h e = absurd h
