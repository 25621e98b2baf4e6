-- What is known at the code of a typed system type.
use Rattle.std.proofs.Common.{◌≡◌, ◌<◌, ℕ, zero, suc, ◌+◌, List, [], ◌∷◌, ◌++◌, Option, Some, None, refl, ap, sym, subst, ◌∙◌, Bool, true, false, if◌then◌else◌, slice_get, length, arith, bytes_eq}
use Rattle.cp_model.specs.Abstract as a
use Rattle.cp_model.specs.Abstract.{Name, Routine, System}
use Rattle.cp_model.specs.Names.{lookup}
use Rattle.cp_model.specs.Types.{GlobalScope}
use Rattle.cp_model.specs.Declarations.{Variable, declarations}
use Rattle.cp_model.specs.Locations.{Location, Owner}
use Rattle.cp_model.specs.Components.{Component, component_named}
use Rattle.cp_law_typing.specs.Judgement.{Initialises, MayBeCalled}
use Rattle.cp_law_typing.specs.Declared as declared
use Rattle.cp_law_typing.specs.Declared.{Distinct, Each, RoutineParameter}
use Rattle.cp_law_typing.specs.Needs.{some_environment}
use Rattle.cp_law_typing.specs.WellTyped.{TypedRoutine}
use Rattle.cp_law_typing.proofs.Names.{bytes_eq-refl, bytes_same}
use Rattle.cp_model_program.specs.Programs.{CodeUnit, Program}
use Rattle.cp_model_program.specs.Sites.{BodyOf, RoutineOf, UnitText, system_of_callee}
use Rattle.cp_model_program.specs.Scopes.{Scope, first_of, routine_index, unit_of}
use Rattle.cp_model_program.proofs.Environments.{environment_at}
pub use Rattle.cp_model_program.specs.Known.{RunsIn, SystemKnown}
use Rattle.cp_model_program.proofs.CallsRepresent.{name_kept}
use Rattle.cp_model_program.proofs.Representing.{InitRepresents, RoutineHere, Representing, UnitThere, place_at}

-- The number of a routine whose name no other has is its place in the list.
pub index_is : (rs : List Routine) (j : ℕ) (r : Routine) → slice_get rs j ≡ Some r → ((i : ℕ) (q : Routine) → slice_get rs i ≡ Some q → q.name ≡ r.name → i ≡ j)
    → routine_index r.name rs ≡ j
index_is [] j r is alone = absurd (cc)
index_is (q ∷ qs) zero r is alone =
    ap (λ b. if b then 0 else suc (routine_index r.name qs)) (ap (bytes_eq r.name) (ap (name_in r.name) is) ∙ bytes_eq-refl r.name)
  where
    name_in : Name → Option Routine → Name
    name_in x None = x
    name_in x (Some z) = z.name
index_is (q ∷ qs) (suc j) r is alone = go (bytes_eq r.name q.name) refl (index_is qs j r is (λ i z there same. omega (arith, alone (suc i) z there same)))
  where
    go : (b : Bool) → bytes_eq r.name q.name ≡ b → routine_index r.name qs ≡ j → (if b then 0 else suc (routine_index r.name qs)) ≡ suc j
    go true e rest = absurd (omega (arith, alone 0 q refl (sym (bytes_same r.name q.name e))))
    go false e rest = ap suc rest

-- The units of a system type are numbered consecutively, and were compiled before.
pub record UnitsThere (g : GlobalScope) (program : Program) (texts : List UnitText) (before : List CodeUnit) (first : ℕ) (s : System) : Type 0 where
  pub routines : (k : ℕ) (r : Routine) → slice_get s.routines k ≡ Some r → UnitThere g program texts before (first + k) (RoutineOf s r)
  pub body : UnitThere g program texts before (first + length s.routines) (BodyOf s)

first_distinct : (vs ws : List (Name × Variable)) → Distinct (vs ++ ws) → Distinct vs
first_distinct [] ws d = tt
first_distinct (v ∷ vs) ws d = (none_first vs d.0, first_distinct vs ws d.1)
  where
    none_first : (us : List (Name × Variable)) → lookup v.0 (us ++ ws) ≡ None → lookup v.0 us ≡ None
    none_first [] h = refl
    none_first (u ∷ us) h = go (bytes_eq v.0 u.0) h (none_first us)
      where
        go : (b : Bool) → (if b then Some u.1 else lookup v.0 (us ++ ws)) ≡ None → (lookup v.0 (us ++ ws) ≡ None → lookup v.0 us ≡ None) → (if b then Some u.1 else lookup v.0 us) ≡ None
        go true h rest = absurd (cc)
        go false h rest = rest h

module _ (g : GlobalScope) (program : Program) (texts : List UnitText) (before : List CodeUnit) (s : System) (systems : List System)
    (known : SystemKnown g s systems) (firsts : List (Name × ℕ)) (first k words : ℕ) (w : Option Routine) where
  abbrev pub scope : Scope
  scope = record { globals = g; system = s; routine = w; firsts = firsts; first = first; words = words }

  pub standing : RoutineHere scope w → RunsIn s w
      → ((j : ℕ) (r : Routine) → j < k → slice_get s.routines j ≡ Some r → UnitThere g program texts before (first + j) (RoutineOf s r))
      → ((n : Component) → component_named (some_environment g s None) n.name ≡ Some n → UnitsThere g program texts before (first_of scope n) n.system)
      → Representing scope program texts before systems k
  standing running runs own named = record {
    running = running;
    by_value = known.by_value;
    no_routine = known.bodies.no_routine;
    no_clock = λ at o x. known.no_clock scope at o x refl refl runs;
    plain = λ at o d. known.plain scope k at o d refl refl runs;
    units = units;
    parameters = parameters;
    inits = inits;
    distinct = known.bodies.distinct;
    reported = known.reported;
    no_process = λ at o r n may sort.
        let q = known.systems_typed may.0 n.system may.2 in
        let typed : TypedRoutine g q.0 n.system may.1 r = q.1.bodies.routines may.1 r may.3 in
        typed.entry may.4 sort;
  }
    where
      units : (at : Location) (o : Owner) (r : Routine) (of : Option Component) → ((n : Component) → of ≡ Some n → component_named (environment_at scope at o) n.name ≡ Some n)
          → MayBeCalled (place_at scope systems k at o) r of
          → UnitThere g program texts before (unit_of scope (record { routine = r; of = of })) (RoutineOf (system_of_callee (environment_at scope at o) of) r)
      units at o r None find may =
          let typed : TypedRoutine g systems s may.0 r = known.bodies.routines may.0 r may.2 in
          subst (λ n. UnitThere g program texts before (first + n) (RoutineOf s r)) (sym (index_is s.routines may.0 r may.2 typed.alone)) (own may.0 r may.1 may.2)
      units at o r (Some n) find may =
          let q = known.systems_typed may.0 n.system may.2 in
          let typed : TypedRoutine g q.0 n.system may.1 r = q.1.bodies.routines may.1 r may.3 in
          subst (λ m. UnitThere g program texts before (first_of scope n + m) (RoutineOf n.system r)) (sym (index_is n.system.routines may.1 r may.3 typed.alone))
          ((named n (find n refl)).routines may.1 r may.3)

      parameters : (at : Location) (o : Owner) (r : Routine) (of : Option Component) → MayBeCalled (place_at scope systems k at o) r of
          → Each (RoutineParameter g (declared.is_function r.result)) (declarations g r.parameters)
      parameters at o r None may = (known.bodies.routines may.0 r may.2).parameters
      parameters at o r (Some n) may =
          let q = known.systems_typed may.0 n.system may.2 in (q.1.bodies.routines may.1 r may.3).parameters

      inits : (at : Location) (o : Owner) (x : Name) (es : a.Expressions) (i : Initialises (place_at scope systems k at o) x es) → InitRepresents scope program texts before i.component
      inits at o x es i =
          let q = known.systems_typed i.place i.component.system i.defined in
          record {
            body = (named i.component (name_kept (environment_at scope at o) x i.component i.named)).body;
            defined = q.0;
            each = q.1.parameters;
            distinct = first_distinct (declarations g i.component.system.parameters) (declarations g i.component.system.variables) q.1.bodies.distinct;
          }
