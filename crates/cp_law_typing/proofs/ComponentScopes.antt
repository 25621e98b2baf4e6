-- The scope of a component, routine by routine, and what a routine adds to it.
use Rattle.std.proofs.Common.{◌≡◌, ◌<◌, ◌≤◌, ℕ, ◌+◌, Bool, true, false, not, List, [], ◌∷◌, ◌++◌, Option, Some, None, if◌then◌else◌, slice_get, length, take, drop, refl, ap, sym, subst, ◌∙◌, append_assoc, codes, bytes_eq, is_some}
use Rattle.std.proofs.lemmas.Bool.{true≢false}
use Rattle.std.proofs.Math.Seq.{take-length}
use Rattle.cp_model.specs.Syntax as s
use Rattle.cp_model.specs.Abstract as a
use Rattle.cp_model.specs.Erase as erase
use Rattle.cp_model.specs.declared.tree.Identifier.{Identifier}
use Rattle.cp_model.specs.declared.rules.Rule.TheVariants.{C8, C11}
use Rattle.cp_model.specs.declared.rules.Entity.{Entity}
use Rattle.cp_model.specs.declared.rules.Entity.TheVariants as entity
use Rattle.cp_model.specs.declared.rules.Standard.TheVariants as standard
use Rattle.cp_model.specs.declared.rules.Position.TheVariants as position
use Rattle.cp_model.specs.RulesJudged.{Judged, Sound, then_judge, unless}
use Rattle.cp_model.specs.RulesEnvironment.{Environment, Names, Text, base_of, is_in_entry, is_in_routine, is_simple, routine_of, row_of}
use Rattle.cp_model.specs.RulesTypes.{named_type}
use Rattle.cp_model.specs.RulesDeclarations.{c8_c11_result, part_of, result_type, result_violations, returns_of}
use Rattle.cp_model.specs.Types.{ArrayOf, ComponentOf, GlobalScope, Members, NoType, Queue, RecordOf, ResolvedType, Simple}
use Rattle.cp_model.specs.Declarations.{Variable, declarations, is_component}
use Rattle.cp_model.specs.Calls.{routine_named}
use Rattle.cp_model.specs.Names.{lookup}
use Rattle.cp_law_typing.specs.Judgement.{IsSimple, Place}
use Rattle.cp_law_typing.specs.WellTyped.{TypedRoutine}
use Rattle.cp_law_typing.proofs.Names.{AllDistinct, keys}
use Rattle.cp_model.proofs.Judging.{also_sound, provided_sound, sound_has, then_sound}
use Rattle.cp_law_typing.proofs.TableMeanings.{Declares, Grows, NamesAs, NeedAs, ReturnsAs, RoutineAs, Tables, TypeAs, TypeAt, Types, names_kept, routine_kept}
use Rattle.cp_law_typing.proofs.Visible.{base_for, some_same}
use Rattle.cp_law_typing.proofs.Layers.{IsOuter, Layers}
use Rattle.cp_law_typing.proofs.LayerNames.{VariablesAs}
use Rattle.cp_law_typing.proofs.DeclaredVariables.{entries_kept}
use Rattle.cp_law_typing.proofs.DeclaredNames.{AllPlaced, AllowsSort}
use Rattle.cp_law_typing.proofs.Headings.{AllParameters}
use Rattle.cp_law_typing.proofs.TypeRows.{type_named}

module _ (G : GlobalScope → Type 0) (ys : List a.System) (y : a.System) where
  -- a routine that was declared, by its name
  pub record KnownRoutine (env : Environment) (rs : Types) (k : ℕ) (z : Text) (e : Entity) : Type 0 where
    pub number : ℕ
    pub within : number < length env.routines
    pub is : e ≡ entity.Routine number
    pub routine : a.Routine
    pub named : routine_named z y ≡ Some routine
    pub place : ℕ
    pub before : place < k
    pub there : slice_get y.routines place ≡ Some routine
    pub meets : RoutineAs G env rs (routine_of env number) routine
    pub need : NeedAs G y (routine_of env number).need routine

  pub record ComponentScope (env : Environment) (rs : Types) (k : ℕ) : Type 0 where
    pub outer : Names
    pub parameters : Names
    pub variables : Names
    pub routines : Names
    pub names : env.names ≡ outer ++ (parameters ++ (variables ++ routines))
    pub distinct : AllDistinct (keys env.names)
    pub globals : NamesAs G rs env.names
    pub outer_as : NamesAs G rs outer
    pub is_outer : (z : Text) (e : Entity) → lookup z outer ≡ Some e → IsOuter e
    pub clock : lookup (codes "realtime") outer ≡ Some (entity.Standard standard.Realtime)
    pub parameters_declared : List (Text × Variable)
    pub variables_declared : List (Text × Variable)
    pub declares_parameters : Declares G y.parameters parameters_declared
    pub declares_variables : Declares G y.variables variables_declared
    pub parameters_as : VariablesAs true rs parameters parameters_declared
    pub variables_as : VariablesAs false rs variables variables_declared
    pub by_value : (z : Text) (v : Variable) → lookup z parameters_declared ≡ Some v → v.by_reference ≡ false
    pub routines_as : (z : Text) (e : Entity) → lookup z routines ≡ Some e → KnownRoutine env rs k z e
    pub no_routine : (z : Text) (e : Entity) → lookup z (outer ++ (parameters ++ variables)) ≡ Some e → routine_named z y ≡ None
    pub tables : Tables G env rs
    pub systems : (t : ℕ) (w : a.System) (inner : Members) → TypeAt rs t (ComponentOf w inner) → (i : ℕ) × (slice_get ys i ≡ Some w)

  -- the layers of names for a statement in the component
  pub layers : (env after : Environment) (rs more : Types) (k : ℕ) (inner : Names) (p : Place) → (c : ComponentScope env rs k) → Grows env after rs more
      → G p.env.globals → p.env.system ≡ y → p.routines ≡ k → after.names ≡ env.names ++ inner → AllDistinct (keys after.names) → Layers G after more p inner
  layers env after rs more k inner p c grows scope system_is count names_are distinct =
      let names : after.names ≡ c.outer ++ (c.parameters ++ (c.variables ++ (c.routines ++ inner))) =
      names_are ∙ ap (λ l. l ++ inner) c.names ∙ append_assoc c.outer (c.parameters ++ (c.variables ++ c.routines)) inner
      ∙ ap (λ l. c.outer ++ l) (append_assoc c.parameters (c.variables ++ c.routines) inner ∙ ap (λ l. c.parameters ++ l) (append_assoc c.variables c.routines inner)) in
      let parameters_are : declarations p.env.globals p.env.system.parameters ≡ c.parameters_declared =
      ap (λ z. declarations p.env.globals z.parameters) system_is ∙ c.declares_parameters p.env.globals scope in
      let variables_are : declarations p.env.globals p.env.system.variables ≡ c.variables_declared =
      ap (λ z. declarations p.env.globals z.variables) system_is ∙ c.declares_variables p.env.globals scope in
      record {
        outer = c.outer;
        parameters = c.parameters;
        variables = c.variables;
        routines = c.routines;
        names = names;
        distinct = subst (λ l. AllDistinct (keys l)) names distinct;
        outer_as = names_kept G env after rs more grows c.outer c.outer_as;
        is_outer = c.is_outer;
        clock = c.clock;
        parameters_as = subst (VariablesAs true more c.parameters) (sym parameters_are)
            (entries_kept G true env after rs more grows c.parameters c.parameters_declared c.parameters_as);
        by_value = λ z v h. c.by_value z v (sym (ap (lookup z) parameters_are) ∙ h);
        variables_as = subst (VariablesAs false more c.variables) (sym variables_are)
            (entries_kept G false env after rs more grows c.variables c.variables_declared c.variables_as);
        routines_as = λ z e h.
            let r : KnownRoutine env rs k z e = c.routines_as z e h in
            record {
              number = r.number;
              is = r.is;
              routine = r.routine;
              named = ap (routine_named z) system_is ∙ r.named;
              place = r.place;
              before = subst (λ n. r.place < n) (sym count) r.before;
              there = ap (λ w. slice_get w.routines r.place) system_is ∙ r.there;
              meets = subst (λ row. RoutineAs G after more row r.routine) (sym (grows.routines r.number r.within)) (routine_kept G env after rs more grows (routine_of env r.number) r.routine r.meets);
              need = subst (λ w. NeedAs G w (routine_of after r.number).need r.routine) (sym system_is)
                  (subst (λ row. NeedAs G y row.need r.routine) (sym (grows.routines r.number r.within)) r.need);
            };
        no_routine = λ z e h. ap (routine_named z) system_is ∙ c.no_routine z e h;
        scope = scope;
      }

  -- ---- one routine

  pub taken_behind : {A : Type 0} (xs ys : List A) → take (length ys) (drop (length xs) (xs ++ ys)) ≡ ys
  taken_behind [] ys = take-length ys
  taken_behind (x ∷ xs) ys = taken_behind xs ys

  pub not_component : (r : ResolvedType) → ((w : a.System) (inner : Members) → r ≡ ComponentOf w inner → ⊥) → is_component r ≡ false
  not_component (ComponentOf w inner) h = absurd (h w inner refl)
  not_component (Simple b low high start) h = refl
  not_component (ArrayOf low high r) h = refl
  not_component (RecordOf ps) h = refl
  not_component Queue h = refl
  not_component NoType h = refl

  pub placed_alone : (ds : List (Text × Variable)) → AllPlaced position.RoutineVariable ds → (z : Text) (v : Variable) → lookup z ds ≡ Some v → is_component v.type ≡ false
  placed_alone [] h z v f = absurd (cc)
  placed_alone (d ∷ ds) h z v f = go (bytes_eq z d.0) f (placed_alone ds h.1 z v)
    where
      go : (b : Bool) → (if b then Some d.1 else lookup z ds) ≡ Some v → (lookup z ds ≡ Some v → is_component v.type ≡ false) → is_component v.type ≡ false
      go true f rest = subst (λ k. is_component k.type ≡ false) (some_same (Some d.1) d.1 v refl f)
          (not_component d.1.type (λ w inner is. let k : AllowsSort position.RoutineVariable w.sort = h.0.0 w inner is in true≢false (sym k.2)))
      go false f rest = rest f

  pub parameters_alone : (ds : List (Text × Variable)) → AllParameters None ds → (z : Text) (v : Variable) → lookup z ds ≡ Some v → is_component v.type ≡ false
  parameters_alone [] h z v f = absurd (cc)
  parameters_alone (d ∷ ds) h z v f = go (bytes_eq z d.0) f (parameters_alone ds h.1 z v)
    where
      go : (b : Bool) → (if b then Some d.1 else lookup z ds) ≡ Some v → (lookup z ds ≡ Some v → is_component v.type ≡ false) → is_component v.type ≡ false
      go true f rest = subst (λ k. is_component k.type ≡ false) (some_same (Some d.1) d.1 v refl f) h.0.0
      go false f rest = rest f

  -- the result type of a function
  pub result_as : (env : Environment) (rs : Types) (o : Option Identifier) → NamesAs G rs env.names → Tables G env rs → result_violations (result_type env o) ≡ []
      → ReturnsAs G rs (returns_of (result_type env o)) (erase.name_if o)
  result_as env rs None names tables h = tt
  result_as env rs (Some x) names tables h =
      let j : Judged ℕ = then_judge (named_type env x) (c8_c11_result env x.at) in
      let is : (t : ℕ) × (j ≡ Sound t) = sound_has j h in
      let inner : (u : ℕ) × (named_type env x ≡ Sound u) × (c8_c11_result env x.at u ≡ Sound is.0) = then_sound (named_type env x) (c8_c11_result env x.at) is.0 is.1 in
      let simple : (is_simple env inner.0 ≡ true) × (inner.0 ≡ is.0) =
      provided_sound (is_simple env inner.0) C11 x.at inner.0 is.0 (also_sound (unless (not (row_of env inner.0).has_queues) C8 x.at) _ is.0 inner.2) in
      let type : TypeAs G rs x.name inner.0 = type_named G rs env x inner.0 names inner.1 in
      subst (λ k. ReturnsAs G rs (returns_of (Some k)) (Some x.name)) (sym is.1)
      (type.0, subst (λ n. TypeAt rs n type.0) simple.1 type.1, type.2, simple_as inner.0 type.0 type.1 simple.0)
    where
      simple_as : (t : ℕ) (r : ResolvedType) → TypeAt rs t r → is_simple env t ≡ true → IsSimple r
      simple_as t r there h = go (base_of env t) refl h
        where
          go : (o : Option ℕ) → base_of env t ≡ o → is_some o ≡ true → IsSimple r
          go None e h = absurd (true≢false (sym h))
          go (Some k) e h = let b = base_for G env rs tables t k r there e in (b.0, b.1)

  pub region_part : (o : Option ℕ) → is_in_routine (part_of o) ≡ true
  region_part None = refl
  region_part (Some at) = refl

  pub entry_part : (o : Option ℕ) → is_in_entry (part_of o) ≡ true → is_some o ≡ true
  entry_part None h = h
  entry_part (Some at) h = refl

  -- what a routine leaves unchanged
  abbrev pub with_routine : Environment → Environment → Environment
  with_routine env after = record env {
    names = after.names;
    types = after.types;
    members = after.members;
    routines = after.routines;
    parameters = after.parameters;
    processes = after.processes;
    monitors = after.monitors;
  }

  pub record RoutinesMade (env : Environment) (rs : Types) (k : ℕ) (qs : List s.Routine) (after : Environment) : Type 0 where
    pub more : Types
    pub grows : Grows env after rs more
    pub components : (t : ℕ) (w : a.System) (inner : Members) → TypeAt more t (ComponentOf w inner) → TypeAt rs t (ComponentOf w inner)
    pub longer : length env.types ≤ length after.types
    pub behind : ComponentScope after more (k + length qs)
    pub same : after ≡ with_routine env after
    pub typed : (i : ℕ) (q : s.Routine) → slice_get qs i ≡ Some q → (g : GlobalScope) → G g → TypedRoutine g ys y (k + i) (erase.routine q)
    pub counted : (after.processes ≡ env.processes) × (after.monitors ≡ env.monitors)
