-- What the compiler needs to know of a text follows from its typing and from what `TextFacts` says.
use Rattle.std.proofs.Common.{◌≡◌, ◌<◌, ◌⊎◌, inl, inr, ℕ, zero, suc, List, [], ◌∷◌, ◌++◌, Option, Some, None, refl, ap, sym, subst, ◌∙◌, Bool, true, false, not, if◌then◌else◌, filter, slice_get, take, length, arith, bytes_eq, append_assoc}
use Rattle.std.proofs.lemmas.Bool.{true≢false}
use Rattle.cp_model.specs.Abstract as a
use Rattle.cp_model.specs.Abstract.{Definition, Group, Name, Sort, System, TypeExpression}
use Rattle.cp_model.specs.Names.{lookup}
use Rattle.cp_model.specs.Types.{ArrayOf, ComponentOf, GlobalScope, Members, NoMembers, NoType, Queue, RecordOf, ResolvedType, Simple, resolved_type, standard_scope}
use Rattle.cp_model.specs.Declarations.{Variable, declarations, declared_group, define, globals, is_component, members_from, reported_members}
use Rattle.cp_model.specs.Environments.{permanent_variables}
use Rattle.cp_model.specs.Components.{Component, component_named}
use Rattle.cp_model.specs.States.{Setup, initial_variables}
use Rattle.cp_law_typing.specs.Declared.{Each, InitialVariable, IsData, IsSystem, MayBePassed, SystemParameter, SystemVariable, sort_of}
use Rattle.cp_law_typing.specs.Judgement.{IsSimple}
use Rattle.cp_law_typing.specs.SoundTypes.{SoundType}
use Rattle.cp_law_typing.specs.Needs.{some_environment}
use Rattle.cp_law_typing.specs.Systems.{systems_of}
use Rattle.cp_law_typing.specs.WellTyped.{TypedSystem, WellTyped, text_systems}
use Rattle.cp_law_typing.proofs.Facts.{taken}
use Rattle.cp_law_typing.proofs.Names.{lookup_first, lookup_later}
use Rattle.cp_model_program.specs.Scopes.{declared_type, groups_of, is_among, type_name}
use Rattle.cp_model_program.specs.Known.{InOrder, NamesInOrder, Plannable, PlannableMembers, SystemKnown, TextFacts, TextKnown}
use Rattle.cp_law_typing.proofs.ComponentNames.{IsNamed, each_found, is_named}
use Rattle.cp_model_program.proofs.DefinitionsRepresent.{component_name}
use Rattle.cp_model_program.proofs.Beginnings.{get_seam}
use Rattle.cp_model_program.proofs.SoundPlans.{sound_plannable}

-- ---- Declared types

-- A name is declared with a written type, in any scope.
pub record DeclaredIn (g h : GlobalScope) (gs : List Group) (x : Name) (v : Variable) : Type 0 where
  pub type : TypeExpression
  pub named : declared_type x gs ≡ type_name type
  pub is : v.type ≡ resolved_type g type
  pub other : Variable
  pub found : lookup x (declarations h gs) ≡ Some other
  pub other_is : other.type ≡ resolved_type h type

abbrev grouped : Group → GlobalScope → Variable
grouped d s = record { by_reference = d.by_reference; type = resolved_type s d.type }

abbrev in_group : Group → List Group → GlobalScope → List Name → List (Name × Variable)
in_group d ds s ns = declared_group d.by_reference (resolved_type s d.type) ns (declarations s ds)

abbrev DeclaredAs : GlobalScope → GlobalScope → Variable → Option Variable → Name → Type 0
DeclaredAs g h v o z = (t : TypeExpression) × (z ≡ type_name t) × (v.type ≡ resolved_type g t) × (w : Variable) × (o ≡ Some w) × (w.type ≡ resolved_type h t)

pub declared_in : (g h : GlobalScope) (gs : List Group) (x : Name) (v : Variable) → lookup x (declarations g gs) ≡ Some v → DeclaredIn g h gs x v
declared_in g h [] x v found = absurd (cc)
declared_in g h (d ∷ ds) x v found =
    let k = go_group d.names found (declared_in g h ds x v) in
    record { type = k.0; named = k.1; is = k.2; other = k.3; found = k.4; other_is = k.5 }
  where
    go_group : (ns : List Name) → lookup x (in_group d ds g ns) ≡ Some v → (lookup x (declarations g ds) ≡ Some v → DeclaredIn g h ds x v)
        → DeclaredAs g h v (lookup x (in_group d ds h ns)) (if is_among x ns then type_name d.type else declared_type x ds)
    go_group [] e rest = let k = rest e in (k.type, k.named, k.is, k.other, k.found, k.other_is)
    go_group (n ∷ ns) e rest = go (bytes_eq x n) e (λ k. go_group ns k rest)
      where
        type_in : Option Variable → ResolvedType
        type_in None = resolved_type g d.type
        type_in (Some w) = w.type

        go : (b : Bool) → (if b then Some (grouped d g) else lookup x (in_group d ds g ns)) ≡ Some v
            → (lookup x (in_group d ds g ns) ≡ Some v → DeclaredAs g h v (lookup x (in_group d ds h ns)) (if is_among x ns then type_name d.type else declared_type x ds))
            → DeclaredAs g h v (if b then Some (grouped d h) else lookup x (in_group d ds h ns)) (if (if b then true else is_among x ns) then type_name d.type else declared_type x ds)
        go true e others = (d.type, refl, sym (ap type_in e), grouped d h, refl, refl)
        go false e others = others e

-- A component's type is a name of the scope.
pub named_in_scope : (g : GlobalScope) (s : System) (n : Component) → component_named (some_environment g s None) n.name ≡ Some n
    → (inner : Members) × (lookup (declared_type n.name (groups_of n.is_parameter s)) g.types ≡ Some (ComponentOf n.system inner))
named_in_scope g s n h =
    let k : IsNamed (some_environment g s None) n.name n = is_named (some_environment g s None) n.name n h in
    go k n.is_parameter refl
  where
    go : (k : IsNamed (some_environment g s None) n.name n) → (b : Bool) → n.is_parameter ≡ b
        → (inner : Members) × (lookup (declared_type n.name (groups_of b s)) g.types ≡ Some (ComponentOf n.system inner))
    go k true is = by s.parameters (k.parameter is)
      where
        by : (gs : List Group) → lookup n.name (declarations g gs) ≡ Some k.variable → (inner : Members) × (lookup (declared_type n.name gs) g.types ≡ Some (ComponentOf n.system inner))
        by gs found =
            let d = declared_in g g gs n.name k.variable found in
            let c = component_name g d.type n.system k.inner (sym d.is ∙ k.type) in
            (k.inner, ap (λ z. lookup z g.types) (d.named ∙ ap type_name c.1) ∙ c.2)
    go k false is = by s.variables (k.own is)
      where
        by : (gs : List Group) → lookup n.name (declarations g gs) ≡ Some k.variable → (inner : Members) × (lookup (declared_type n.name gs) g.types ≡ Some (ComponentOf n.system inner))
        by gs found =
            let d = declared_in g g gs n.name k.variable found in
            let c = component_name g d.type n.system k.inner (sym d.is ∙ k.type) in
            (k.inner, ap (λ z. lookup z g.types) (d.named ∙ ap type_name c.1) ∙ c.2)

-- ---- Each variable

pub each_map : (P Q : Name × Variable → Type 0) (vs : List (Name × Variable)) → ((v : Name × Variable) → P v → Q v) → Each P vs → Each Q vs
each_map P Q [] f h = tt
each_map P Q (v ∷ vs) f h = (f v h.0, each_map P Q vs f h.1)

pub found_in_both : (P : Variable → Type 0) (vs ws : List (Name × Variable)) (x : Name) (v : Variable) → Each (λ w. P w.1) vs → Each (λ w. P w.1) ws → lookup x (vs ++ ws) ≡ Some v → P v
found_in_both P vs ws x v h k is = go (lookup x vs) refl
  where
    go : (o : Option Variable) → lookup x vs ≡ o → P v
    go None e = each_found P ws x v k (sym (lookup_later x vs ws e) ∙ is)
    go (Some w) e = each_found P vs x v h (e ∙ sym (lookup_first x vs ws w e) ∙ is)

abbrev pub IsReportedAs : GlobalScope → Variable → Type 0
IsReportedAs g v = (r : System) (inner : Members) → v.type ≡ ComponentOf r inner → inner ≡ reported_members g r

reported_data : (g : GlobalScope) (t : ResolvedType) → IsData g t → (r : System) (inner : Members) → t ≡ ComponentOf r inner → inner ≡ reported_members g r
reported_data g (ComponentOf s ms) h r inner is = absurd h.0
reported_data g (Simple b low high start) h r inner is = absurd (cc)
reported_data g (ArrayOf low high t) h r inner is = absurd (cc)
reported_data g (RecordOf ms) h r inner is = absurd (cc)
reported_data g Queue h r inner is = absurd (cc)
reported_data g NoType h r inner is = absurd (cc)

reported_system : (g : GlobalScope) (before : List System) (t : ResolvedType) → IsSystem g before t → (r : System) (inner : Members) → t ≡ ComponentOf r inner → inner ≡ reported_members g r
reported_system g before (ComponentOf s ms) h r inner is =
    sym (ap (members_in ms) is) ∙ h.2 ∙ ap (λ t. reported_members g (system_in s t)) is
  where
    members_in : Members → ResolvedType → Members
    members_in z (ComponentOf q inner) = inner
    members_in z _ = z

    system_in : System → ResolvedType → System
    system_in z (ComponentOf q inner) = q
    system_in z _ = z
reported_system g before (Simple b low high start) h r inner is = absurd h
reported_system g before (ArrayOf low high t) h r inner is = absurd h
reported_system g before (RecordOf ms) h r inner is = absurd h
reported_system g before Queue h r inner is = absurd h
reported_system g before NoType h r inner is = absurd h

-- ---- Plans

plannable_members : (vs : List (Name × Variable)) (rest : Members) → Each (λ v. Plannable true v.1.type) vs → PlannableMembers true rest → PlannableMembers true (members_from vs rest)
plannable_members [] rest h k = k
plannable_members (v ∷ vs) rest h k = (h.0, plannable_members vs rest h.1 k)

system_plannable : (g : GlobalScope) (before : List System) (t : ResolvedType) → ((i : ℕ) (s : System) → slice_get before i ≡ Some s → PlannableMembers true (reported_members g s)) → IsSystem g before t
    → Plannable true t
system_plannable g before (ComponentOf s inner) all h = (refl, subst (PlannableMembers true) (sym h.2) (all h.0 s h.1))
system_plannable g before (Simple b low high start) all h = absurd h
system_plannable g before (ArrayOf low high t) all h = absurd h
system_plannable g before (RecordOf ms) all h = absurd h
system_plannable g before Queue all h = absurd h
system_plannable g before NoType all h = absurd h

pub system_is_component : (g : GlobalScope) (before : List System) (t : ResolvedType) → IsSystem g before t → is_component t ≡ true
system_is_component g before (ComponentOf s inner) h = refl
system_is_component g before (Simple b low high start) h = absurd h
system_is_component g before (ArrayOf low high t) h = absurd h
system_is_component g before (RecordOf ms) h = absurd h
system_is_component g before Queue h = absurd h
system_is_component g before NoType h = absurd h

own_plannable : (g : GlobalScope) (before : List System) (sort : Sort) (ps : List (Name × Variable)) → Each (SystemParameter g before sort) ps
    → Each (λ v. Plannable true v.1.type) (filter (λ v. not (is_component v.1.type)) ps)
own_plannable g before sort [] h = tt
own_plannable g before sort (p ∷ ps) h = go (not (is_component p.1.type)) refl h.0.1 (own_plannable g before sort ps h.1)
  where
    go : (b : Bool) → not (is_component p.1.type) ≡ b → (IsSimple p.1.type × IsData g p.1.type) ⊎ (IsSystem g before p.1.type × MayBePassed sort (sort_of p.1.type))
        → Each (λ v. Plannable true v.1.type) (filter (λ v. not (is_component v.1.type)) ps)
        → Each (λ v. Plannable true v.1.type) (if b then p ∷ filter (λ v. not (is_component v.1.type)) ps else filter (λ v. not (is_component v.1.type)) ps)
    go false is h rest = rest
    go true is (inl h) rest = (sound_plannable true p.1.type h.1.0, rest)
    go true is (inr h) rest = absurd (true≢false (sym is ∙ ap not (system_is_component g before p.1.type h.0)))

module _ (setup : Setup) (typed : WellTyped setup) where
  abbrev g : GlobalScope
  g = globals setup.tree

  pub systems_planned : (n i : ℕ) (s : System) → i < n → slice_get (text_systems setup) i ≡ Some s → PlannableMembers true (reported_members g s)
  systems_planned zero i s less is = absurd (omega (arith, less))
  systems_planned (suc n) i s less is = go (systems_planned n) (typed.systems i s is)
    where
      go : ((j : ℕ) (q : System) → j < n → slice_get (text_systems setup) j ≡ Some q → PlannableMembers true (reported_members g q)) → TypedSystem g (take i (text_systems setup)) s
          → PlannableMembers true (reported_members g s)
      go rest t =
          plannable_members (filter (λ v. not (is_component v.1.type)) (declarations g s.parameters)) (members_from (declarations g s.variables) NoMembers)
          (own_plannable g (take i (text_systems setup)) s.sort (declarations g s.parameters) t.parameters)
          (plannable_members (declarations g s.variables) NoMembers
          (each_map (SystemVariable g (take i (text_systems setup)) s.sort) (λ v. Plannable true v.1.type) (declarations g s.variables) one t.variables) tt)
        where
          one : (v : Name × Variable) → SystemVariable g (take i (text_systems setup)) s.sort v → Plannable true v.1.type
          one v h = elim h.1 [
            | inl k ↦ sound_plannable true v.1.type k.0.0
            | inr k ↦
                system_plannable g (take i (text_systems setup)) v.1.type (λ j q there.
                let w = taken (text_systems setup) i j q there in rest j q (omega (arith, w.0, less)) w.1) k.0
          ]

  -- ---- System types

  by_reference_of : (before : List System) (s : System) → TypedSystem g before s → (x : Name) (v : Variable) → lookup x (permanent_variables g s) ≡ Some v → v.by_reference ≡ false
  by_reference_of before s t x v is =
      found_in_both (λ w. w.by_reference ≡ false) (declarations g s.parameters) (declarations g s.variables) x v
      (each_map (SystemParameter g before s.sort) (λ w. w.1.by_reference ≡ false) (declarations g s.parameters) (λ w h. h.0) t.parameters)
      (each_map (SystemVariable g before s.sort) (λ w. w.1.by_reference ≡ false) (declarations g s.variables) (λ w h. h.0) t.variables) is

  reported_of : (before : List System) (s : System) → TypedSystem g before s → (x : Name) (v : Variable) → lookup x (declarations g s.variables) ≡ Some v → IsReportedAs g v
  reported_of before s t x v is =
      each_found (IsReportedAs g) (declarations g s.variables) x v
      (each_map (SystemVariable g before s.sort) (λ w. IsReportedAs g w.1) (declarations g s.variables)
      (λ w h. elim h.1 [ inl k ↦ reported_data g w.1.type k.0 | inr k ↦ reported_system g before w.1.type k.0 ]) t.variables) is

  module _ (facts : TextFacts setup) where
    known_system : (i : ℕ) (s : System) → slice_get (text_systems setup) i ≡ Some s → SystemKnown g s (take i (text_systems setup))
    known_system i s is =
        let t = typed.systems i s is in
        let f = facts.systems i s is in
        record {
          bodies = t.bodies;
          by_value = by_reference_of (take i (text_systems setup)) s t;
          reported = λ x v r inner h. reported_of (take i (text_systems setup)) s t x v h r inner;
          no_clock = f.no_clock;
          plain = f.plain (take i (text_systems setup));
          systems_typed = λ j q h. let w = taken (text_systems setup) i j q h in (take j (text_systems setup), typed.systems j q w.1);
        }

    initial_known : SystemKnown g setup.tree.initial (text_systems setup)
    initial_known = record {
      bodies = typed.initial_bodies;
      by_value = λ x v is.
          found_in_both (λ w. w.by_reference ≡ false) (declarations g setup.tree.initial.parameters) (declarations g setup.tree.initial.variables) x v
          (subst (λ ps. Each (λ w. w.1.by_reference ≡ false) (declarations g ps)) (sym typed.initial_parameters) tt)
          (each_map (InitialVariable g (text_systems setup)) (λ w. w.1.by_reference ≡ false) (declarations g setup.tree.initial.variables) (λ w h. h.0) typed.initial_variables) is;
      reported = λ x v r inner is.
          each_found (IsReportedAs g) (declarations g setup.tree.initial.variables) x v
          (each_map (InitialVariable g (text_systems setup)) (λ w. IsReportedAs g w.1) (declarations g setup.tree.initial.variables)
          (λ w h. elim h.1 [ inl k ↦ reported_data g w.1.type k.0 | inr k ↦ reported_system g (text_systems setup) w.1.type k ]) typed.initial_variables) is r inner;
      no_clock = facts.initial.no_clock;
      plain = facts.initial.plain (text_systems setup);
      systems_typed = λ j q h. (take j (text_systems setup), typed.systems j q h);
    }

    take_first : (ys zs : List System) → take (length ys) (ys ++ zs) ≡ ys
    take_first [] zs = refl
    take_first (y ∷ ys) zs = ap (λ l. y ∷ l) (take_first ys zs)

    in_order : (ds : List Definition) (h : GlobalScope) (ys : List System) → text_systems setup ≡ ys ++ systems_of ds → NamesInOrder g h ds → InOrder g h ys ds
    in_order [] h ys is named = tt
    in_order (a.SystemDef x s ∷ ds) h ys is named = (
      subst (SystemKnown g s) (ap (take (length ys)) is ∙ take_first ys (s ∷ systems_of ds))
          (known_system (length ys) s (ap (λ l. slice_get l (length ys)) is ∙ get_seam ys s (systems_of ds))),
      named.0,
      in_order ds (define h (a.SystemDef x s)) (ys ++ s ∷ []) (is ∙ sym (append_assoc ys (s ∷ []) (systems_of ds))) named.1,
    )
    in_order (a.TypeDef x t ∷ ds) h ys is named = in_order ds (define h (a.TypeDef x t)) ys is named
    in_order (a.EnumDef x vs ∷ ds) h ys is named = in_order ds (define h (a.EnumDef x vs)) ys is named
    in_order (a.ConstantDef x c ∷ ds) h ys is named = in_order ds (define h (a.ConstantDef x c)) ys is named

    planned_at : (j : ℕ) (q : System) → slice_get (text_systems setup) j ≡ Some q → PlannableMembers true (reported_members g q)
    planned_at j q is = systems_planned (suc j) j q (omega arith) is

    initial_planned : PlannableMembers true (reported_members g setup.tree.initial)
    initial_planned =
        plannable_members (filter (λ v. not (is_component v.1.type)) (declarations g setup.tree.initial.parameters)) (members_from (declarations g setup.tree.initial.variables) NoMembers)
        (subst (λ ps. Each (λ v. Plannable true v.1.type) (filter (λ v. not (is_component v.1.type)) (declarations g ps))) (sym typed.initial_parameters) tt)
        (plannable_members (declarations g setup.tree.initial.variables) NoMembers
        (each_map (InitialVariable g (text_systems setup)) (λ v. Plannable true v.1.type) (declarations g setup.tree.initial.variables) one typed.initial_variables) tt)
      where
        one : (v : Name × Variable) → InitialVariable g (text_systems setup) v → Plannable true v.1.type
        one v h = elim h.1 [ inl k ↦ sound_plannable true v.1.type k.0.0 | inr k ↦ system_plannable g (text_systems setup) v.1.type planned_at k ]

    component_planned : (x : Name) (v : Variable) (s : System) (inner : Members) → lookup x (initial_variables setup) ≡ Some v → v.type ≡ ComponentOf s inner
        → PlannableMembers true (reported_members g s)
    component_planned x v s inner found type =
        each_found (λ w. (r : System) (ms : Members) → w.type ≡ ComponentOf r ms → PlannableMembers true (reported_members g r)) (initial_variables setup) x v
        (each_map (InitialVariable g (text_systems setup)) (λ w. (r : System) (ms : Members) → w.1.type ≡ ComponentOf r ms → PlannableMembers true (reported_members g r)) (initial_variables setup)
        one typed.initial_variables) found s inner type
      where
        of_system : (t : ResolvedType) → IsSystem g (text_systems setup) t → (r : System) (ms : Members) → t ≡ ComponentOf r ms → PlannableMembers true (reported_members g r)
        of_system t h r ms is =
            let k : IsSystem g (text_systems setup) (ComponentOf r ms) = subst (IsSystem g (text_systems setup)) is h in planned_at k.0 r k.1

        one : (w : Name × Variable) → InitialVariable g (text_systems setup) w → (r : System) (ms : Members) → w.1.type ≡ ComponentOf r ms → PlannableMembers true (reported_members g r)
        one w h r ms is = elim h.1 [
          | inl k ↦ absurd (no_data k.0.0)
          | inr k ↦ of_system w.1.type k r ms is
        ]
          where
            no_data : SoundType w.1.type → ⊥
            no_data s = subst SoundType is s

    pub known : TextKnown setup
    known = record {
      in_order = in_order setup.tree.definitions standard_scope [] refl facts.in_order;
      initial = initial_known;
      named = named_in_scope g setup.tree.initial;
      no_parameters = typed.initial_parameters;
      initial_planned = initial_planned;
      planned = component_planned;
      members = facts.members;
      set_apart = facts.set_apart;
      typed = typed;
    }
