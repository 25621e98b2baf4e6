-- What `TextFacts` says of a text follows from its typing, and from the numbers after a minus.
use Rattle.std.proofs.Common.{◌≡◌, ◌⊎◌, inl, inr, ℕ, ℤ, pos, negsuc, List, [], ◌∷◌, ◌++◌, Option, Some, None, refl, ap, sym, subst, ◌∙◌, Bool, true, false, if◌then◌else◌, slice_get, take, arith, bytes_eq}
use Rattle.std.proofs.lemmas.Bool.{true≢false}
use Rattle.cp_model.specs.Abstract as a
use Rattle.cp_model.specs.Abstract.{BaseType, Definition, Group, Name, Routine, System}
use Rattle.cp_model.specs.Names.{lookup}
use Rattle.cp_model.specs.Types.{ArrayOf, ComponentOf, GlobalScope, Members, MoreMembers, NoMembers, NoType, Queue, RecordOf, ResolvedType, Simple, or_no_type, resolved_type, standard_scope}
use Rattle.cp_model.specs.Declarations.{Variable, declarations, define, globals, is_component, reported_members}
use Rattle.cp_model.specs.Environments.{Frame, IsVariable, local_variables, meaning, permanent_variables, result_variable}
use Rattle.cp_model.specs.Locations.{Location, Owner}
use Rattle.cp_model.specs.Places.{field_type, member_type, within}
use Rattle.cp_model.specs.States.{Setup}
use Rattle.cp_law_typing.specs.Declared.{AllFormed, Each, InitialVariable, IsData, IsReported, IsSystem, ResultFits, RoutineParameter, RoutineVariable, SystemParameter, SystemVariable, is_function}
use Rattle.cp_law_typing.specs.Judgement.{HasField, IsArray, TypedPlace, find_member, is_structured}
use Rattle.cp_law_typing.specs.Magnitudes.{AreNegativesWithin, IsAbove}
use Rattle.cp_law_typing.specs.Needs.{some_environment}
use Rattle.cp_law_typing.specs.SoundTypes.{SoundMembers, SoundType}
use Rattle.cp_law_typing.specs.StaticTypes.{element_type, is_clock, place_type, place_type_meant}
use Rattle.cp_law_typing.specs.Variables.{IsLocalVariable, IsOwnVariable}
use Rattle.cp_law_typing.specs.WellTyped.{Later, TypedBodies, TypedInOrder, TypedRoutine, TypedSystem, WellTyped, text_systems}
use Rattle.cp_law_typing.proofs.Facts.{variables_lie}
use Rattle.cp_law_typing.proofs.LowerBounds.{lower_bounds}
use Rattle.cp_model_program.specs.Scopes.{Scope, declared_type, environment_at, frame_at, groups_of, type_name}
use Rattle.cp_model_program.specs.Starts.{unset}
use Rattle.cp_model_program.specs.Known.{NamedBefore, NamesInOrder, RunsIn, SystemFacts, TextFacts, place_at}
use Rattle.cp_law_typing.proofs.ComponentNames.{IsNamed, each_found, is_named}
use Rattle.cp_model_program.proofs.DefinitionsRepresent.{component_name}
use Rattle.cp_model_program.proofs.KnownRepresent.{DeclaredIn, declared_in, each_map, found_in_both, system_is_component}

-- ---- Types

-- for a data type: its parts are sound
abbrev IsFormed : Variable → Type 0
IsFormed v = is_component v.type ≡ false → SoundType v.type

member_sound : (x : Name) (ms : Members) (t : ResolvedType) → SoundMembers ms → find_member x ms ≡ Some t → SoundType (member_type x ms)
member_sound x NoMembers t s found = absurd (cc)
member_sound x (MoreMembers y u ms) t s found = go (bytes_eq x y) found (member_sound x ms t s.2)
  where
    go : (b : Bool) → (if b then Some u else find_member x ms) ≡ Some t → (find_member x ms ≡ Some t → SoundType (member_type x ms))
        → SoundType (if b then u else member_type x ms)
    go true found rest = s.0
    go false found rest = rest found

not_component : (t : ResolvedType) → is_structured t ≡ true → is_component t ≡ false
not_component (ArrayOf low high t) h = refl
not_component (RecordOf ms) h = refl
not_component (Simple b low high start) h = refl
not_component Queue h = refl
not_component (ComponentOf y inner) h = absurd (true≢false (sym h))
not_component NoType h = refl

-- ---- System types

module _ (g : GlobalScope) (s : System) (before : List System) (bodies : TypedBodies g before s)
    (formed : (x : Name) (v : Variable) → lookup x (permanent_variables g s) ≡ Some v → IsFormed v) where
  -- what holds for the variables of the component and of its routines holds for everything that is
  -- named
  of_variable : (P : Name → Variable → Type 0) → ((x : Name) (v : Variable) → lookup x (permanent_variables g s) ≡ Some v → P x v)
      → ((k : ℕ) (r : Routine) → slice_get s.routines k ≡ Some r → (x : Name) (v : Variable) → lookup x (local_variables g r) ≡ Some v → P x v)
      → (scope : Scope) (at : Location) (o : Owner) (x : Name) (l : Location) (v : Variable) → scope.globals ≡ g → scope.system ≡ s → RunsIn s scope.routine
      → meaning (environment_at scope at o) x ≡ IsVariable l v → P x v
  of_variable P own local scope at o x l v is_g is_s runs means = go (variables_lie (environment_at scope at o) x l v means)
    where
      by_routine : (q : Option Routine) → RunsIn s q → (f : Frame) → frame_at o q ≡ Some f → lookup x (local_variables g f.routine) ≡ Some v → P x v
      by_routine None runs f is found = absurd (cc)
      by_routine (Some r) runs f is found = local runs.0 f.routine (runs.1 ∙ ap routine_in is) x v found
        where
          routine_in : Option Frame → Option Routine
          routine_in None = None
          routine_in (Some f) = Some f.routine

      go : IsLocalVariable (environment_at scope at o) x l v ⊎ IsOwnVariable (environment_at scope at o) x l v → P x v
      go (inl h) = by_routine scope.routine runs h.frame h.running (ap (λ z. lookup x (local_variables z h.frame.routine)) (sym is_g) ∙ h.found)
      go (inr h) = own x v (ap (λ z. lookup x (permanent_variables z s)) (sym is_g) ∙ ap (λ y. lookup x (permanent_variables scope.globals y)) (sym is_s) ∙ h.found)

  local_formed : (k : ℕ) (r : Routine) → slice_get s.routines k ≡ Some r → (x : Name) (v : Variable) → lookup x (local_variables g r) ≡ Some v → IsFormed v
  local_formed k r is x v found =
      found_in_both IsFormed (declarations g r.parameters) (declarations g r.variables ++ result_variable g r.name r.result) x v
      (each_map (RoutineParameter g (is_function r.result)) (λ w. IsFormed w.1) (declarations g r.parameters) (λ w h alone. h.0.0) typed.parameters)
      (both (declarations g r.variables) (each_map (RoutineVariable g) (λ w. IsFormed w.1) (declarations g r.variables) (λ w h alone. h.0.0) typed.variables) (of_result r.result typed.result)) found
    where
      typed : TypedRoutine g before s k r
      typed = bodies.routines k r is

      of_result : (q : Option Name) → ResultFits g q → Each (λ w. IsFormed w.1) (result_variable g r.name q)
      of_result None h = tt
      of_result (Some t) h = ((λ alone. h.1.0), tt)

      both : (vs : List (Name × Variable)) → Each (λ w. IsFormed w.1) vs → Each (λ w. IsFormed w.1) (result_variable g r.name r.result)
          → Each (λ w. IsFormed w.1) (vs ++ result_variable g r.name r.result)
      both [] h k = k
      both (w ∷ ws) h k = (h.0, both ws h.1 k)

  place_formed : (systems : List System) (scope : Scope) (routines : ℕ) (at : Location) (o : Owner) → scope.globals ≡ g → scope.system ≡ s → RunsIn s scope.routine
      → (d : a.Designator) → TypedPlace (place_at scope systems routines at o) d → is_component (place_type (environment_at scope at o) d) ≡ false
      → SoundType (place_type (environment_at scope at o) d)
  place_formed systems scope routines at o is_g is_s runs (a.Plain x) typed alone =
      let v : IsFormed typed.1 = of_variable (λ x v. IsFormed v) formed local_formed scope at o x typed.0 typed.1 is_g is_s runs typed.2 in
      subst (λ m. SoundType (place_type_meant m)) (sym typed.2) (v (sym (ap (λ m. is_component (place_type_meant m)) typed.2) ∙ alone))
  place_formed systems scope routines at o is_g is_s runs (a.Part d x) typed alone =
      let field : HasField x (place_type (environment_at scope at o) d) = typed.1 in
      let whole : SoundType (place_type (environment_at scope at o) d) =
      place_formed systems scope routines at o is_g is_s runs d typed.0 (ap is_component field.is) in
      subst (λ t. SoundType (field_type x t)) (sym field.is) (member_sound x field.members field.type (subst SoundType field.is whole) field.found)
  place_formed systems scope routines at o is_g is_s runs (a.At d e) typed alone =
      let array : IsArray (place_type (environment_at scope at o) d) = typed.2 in
      let whole : SoundType (place_type (environment_at scope at o) d) =
      place_formed systems scope routines at o is_g is_s runs d typed.0 (ap is_component array.is) in
      let sound : SoundType (ArrayOf array.low array.high array.element) = subst SoundType array.is whole in
      subst (λ t. SoundType (element_type t)) (sym array.is) sound.1

  pub system_facts : SystemFacts g s
  system_facts = record {
    no_clock = λ scope at o x is_g is_s runs names.
        of_variable (λ z v. is_clock z ≡ false) bodies.no_clock (λ k r is. (bodies.routines k r is).no_clock) scope at o x names.0 names.1 is_g is_s runs names.2;
    plain = λ systems scope routines at o d is_g is_s runs typed structured free.
        (place_formed systems scope routines at o is_g is_s runs d typed (not_component (place_type (environment_at scope at o) d) structured), free);
  }

system_formed : (g : GlobalScope) (before : List System) (t : ResolvedType) → IsSystem g before t → is_component t ≡ false → SoundType t
system_formed g before t h alone = absurd (true≢false (sym (system_is_component g before t h) ∙ alone))

members_formed : (g : GlobalScope) (before : List System) (s : System) → TypedSystem g before s → (x : Name) (v : Variable) → lookup x (permanent_variables g s) ≡ Some v → IsFormed v
members_formed g before s typed x v =
    found_in_both IsFormed (declarations g s.parameters) (declarations g s.variables) x v
    (each_map (SystemParameter g before s.sort) (λ w. IsFormed w.1) (declarations g s.parameters)
    (λ w h alone. elim h.1 [ inl k ↦ k.1.0 | inr k ↦ system_formed g before w.1.type k.0 alone ]) typed.parameters)
    (each_map (SystemVariable g before s.sort) (λ w. IsFormed w.1) (declarations g s.variables)
    (λ w h alone. elim h.1 [ inl k ↦ k.0.0 | inr k ↦ system_formed g before w.1.type k.0 alone ]) typed.variables)

-- ---- Definitions in text order

abbrev IsSome : Variable → Type 0
IsSome v = v.type ≡ NoType → ⊥

data_is_some : (g : GlobalScope) (t : ResolvedType) → IsData g t → t ≡ NoType → ⊥
data_is_some g t h is = subst SoundType is h.0

system_is_some : (g : GlobalScope) (before : List System) (t : ResolvedType) → IsSystem g before t → t ≡ NoType → ⊥
system_is_some g before t h is = subst (IsSystem g before) is h

parameters_are_some : (h : GlobalScope) (before : List System) (s : System) → TypedSystem h before s → Each (λ w. IsSome w.1) (declarations h s.parameters)
parameters_are_some h before s typed =
    each_map (SystemParameter h before s.sort) (λ w. IsSome w.1) (declarations h s.parameters)
    (λ w p. elim p.1 [ inl k ↦ data_is_some h w.1.type k.1 | inr k ↦ system_is_some h before w.1.type k.0 ]) typed.parameters

variables_are_some : (h : GlobalScope) (before : List System) (s : System) → TypedSystem h before s → Each (λ w. IsSome w.1) (declarations h s.variables)
variables_are_some h before s typed =
    each_map (SystemVariable h before s.sort) (λ w. IsSome w.1) (declarations h s.variables)
    (λ w p. elim p.1 [ inl k ↦ data_is_some h w.1.type k.0 | inr k ↦ system_is_some h before w.1.type k.0 ]) typed.variables

-- The name of a component's type already has a meaning in the scope before, and so the same meaning
-- in the scope of the text.
named_before : (g h : GlobalScope) (before : List System) (s : System) → Later h g → TypedSystem h before s → NamedBefore g h s
named_before g h before s later typed n is = by n.is_parameter refl (is_named (some_environment g s None) n.name n is)
  where
    in_groups : (gs : List Group) (v : Variable) (inner : Members) → lookup n.name (declarations g gs) ≡ Some v → v.type ≡ ComponentOf n.system inner
        → Each (λ w. IsSome w.1) (declarations h gs) → lookup (declared_type n.name gs) h.types ≡ Some (ComponentOf n.system inner)
    in_groups gs v inner found type some =
        let d : DeclaredIn g h gs n.name v = declared_in g h gs n.name v found in
        let c : (z : Name) × (d.type ≡ a.TypeName z) × (lookup z g.types ≡ Some (ComponentOf n.system inner)) = component_name g d.type n.system inner (sym d.is ∙ type) in
        ap (λ z. lookup z h.types) (d.named ∙ ap type_name c.1)
        ∙ go c.0 (lookup c.0 h.types) refl c.2 (λ none. each_found IsSome (declarations h gs) n.name d.other some d.found (d.other_is ∙ ap (resolved_type h) c.1 ∙ none))
      where
        go : (z : Name) (q : Option ResolvedType) → lookup z h.types ≡ q → lookup z g.types ≡ Some (ComponentOf n.system inner) → (or_no_type (lookup z h.types) ≡ NoType → ⊥)
            → lookup z h.types ≡ Some (ComponentOf n.system inner)
        go z None e there some = absurd (some (ap or_no_type e))
        go z (Some t) e there some = e ∙ sym (later.types z t e) ∙ there

    by : (b : Bool) → n.is_parameter ≡ b → IsNamed (some_environment g s None) n.name n
        → (inner : Members) × (lookup (declared_type n.name (groups_of n.is_parameter s)) h.types ≡ Some (ComponentOf n.system inner))
    by true e k =
        (k.inner, ap (λ b. lookup (declared_type n.name (groups_of b s)) h.types) e ∙ in_groups s.parameters k.variable k.inner (k.parameter e) k.type (parameters_are_some h before s typed))
    by false e k =
        (k.inner, ap (λ b. lookup (declared_type n.name (groups_of b s)) h.types) e ∙ in_groups s.variables k.variable k.inner (k.own e) k.type (variables_are_some h before s typed))

names_in_order : (g : GlobalScope) (ds : List Definition) (h : GlobalScope) (before : List System) → TypedInOrder g h before ds → NamesInOrder g h ds
names_in_order g [] h before typed = tt
names_in_order g (a.SystemDef x s ∷ ds) h before typed =
    (named_before g h before s typed.0.0 typed.0.1, names_in_order g ds (define h (a.SystemDef x s)) (before ++ s ∷ []) typed.1)
names_in_order g (a.TypeDef x t ∷ ds) h before typed = names_in_order g ds (define h (a.TypeDef x t)) before typed
names_in_order g (a.EnumDef x vs ∷ ds) h before typed = names_in_order g ds (define h (a.EnumDef x vs)) before typed
names_in_order g (a.ConstantDef x c ∷ ds) h before typed = names_in_order g ds (define h (a.ConstantDef x c)) before typed

-- ---- Named types

reported_named : (g : GlobalScope) (ts : List (Name × ResolvedType)) → AllFormed g ts → (x : Name) (s : System) (inner : Members)
    → or_no_type (lookup x ts) ≡ ComponentOf s inner → inner ≡ reported_members g s
reported_named g [] h x s inner is = absurd (cc)
reported_named g (t ∷ ts) h x s inner is = go (bytes_eq x t.0) is (reported_named g ts h.1 x s inner)
  where
    go : (b : Bool) → or_no_type (if b then Some t.1 else lookup x ts) ≡ ComponentOf s inner → (or_no_type (lookup x ts) ≡ ComponentOf s inner → inner ≡ reported_members g s)
        → inner ≡ reported_members g s
    go true is rest = subst (IsReported g) is h.0.1
    go false is rest = rest is

-- a number that isn't further below 0 isn't the mark
not_unset : (low high n : ℤ) → IsAbove 65535 low → within low high n ≡ true → n ≡ unset → ⊥
not_unset (pos k) high n above inside is = grind (arith, inside, is)
not_unset (negsuc k) high n above inside is = grind (arith, above, inside, is)

-- ---- Texts

module _ (setup : Setup) (typed : WellTyped setup) where
  abbrev g : GlobalScope
  g = globals setup.tree

  initial_formed : (x : Name) (v : Variable) → lookup x (permanent_variables g setup.tree.initial) ≡ Some v → IsFormed v
  initial_formed x v =
      found_in_both IsFormed (declarations g setup.tree.initial.parameters) (declarations g setup.tree.initial.variables) x v
      (subst (λ ps. Each (λ w. IsFormed w.1) (declarations g ps)) (sym typed.initial_parameters) tt)
      (each_map (InitialVariable g (text_systems setup)) (λ w. IsFormed w.1) (declarations g setup.tree.initial.variables)
      (λ w h alone. elim h.1 [ inl k ↦ k.0.0 | inr k ↦ system_formed g (text_systems setup) w.1.type k alone ]) typed.initial_variables)

  pub text_facts : AreNegativesWithin 65535 setup.tree.definitions → TextFacts setup
  text_facts small = record {
    systems = λ i s is.
        system_facts g s (take i (text_systems setup)) (typed.systems i s is).bodies (members_formed g (take i (text_systems setup)) s (typed.systems i s is));
    initial = system_facts g setup.tree.initial (text_systems setup) typed.initial_bodies initial_formed;
    in_order = names_in_order g setup.tree.definitions standard_scope [] typed.in_order;
    members = λ s inner x is. reported_named g g.types typed.types x s inner is;
    set_apart = λ x b low high start n named inside is.
        not_unset low high n (lower_bounds 65535 setup.tree x b low high start (omega arith) small named) inside is;
  }
