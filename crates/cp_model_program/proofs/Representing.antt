-- The context in which code is proved: the scope that it was compiled with, the site, and what is
-- known about both.
use Rattle.std.proofs.Common.{◌≡◌, ◌≤◌, ◌<◌, ℕ, ◌+◌, List, [], ◌∷◌, ◌++◌, Option, Some, None, refl, true, false, slice_get}
use Rattle.cp_model.specs.Abstract as a
use Rattle.cp_model.specs.Abstract.{Name, Plain, Routine, System}
use Rattle.cp_model.specs.Names.{lookup}
use Rattle.cp_model.specs.Types.{ComponentOf, GlobalScope, Members}
use Rattle.cp_model.specs.Declarations.{Variable, declarations, reported_members}
use Rattle.cp_model.specs.Environments.{permanent_variables}
use Rattle.cp_model.specs.Locations.{Location, Owner}
use Rattle.cp_model.specs.Calls.{routine_named}
use Rattle.cp_model.specs.Components.{Component, component_named}
use Rattle.cp_law_typing.specs.Judgement.{Initialises, MayBeCalled, TypedPlace, has_queues, is_structured, NamesVariable}
use Rattle.cp_law_typing.specs.Declared as declared
use Rattle.cp_law_typing.specs.Declared.{Distinct, Each, ResultFits, RoutineParameter, SystemParameter}
use Rattle.cp_law_typing.specs.StaticTypes.{is_clock, place_type}
use Rattle.cp_law_typing.specs.Needs as needs
use Rattle.cp_law_typing.specs.Needs.{statement_need}
use Rattle.cp_model_program.specs.Programs as op
use Rattle.cp_model_program.specs.Programs.{Call, CodeUnit, Program}
use Rattle.cp_model_program.specs.Sites.{BodyOf, LeftOut, RoutineOf, UnitText, operation_at, system_of_callee}
use Rattle.cp_model_program.specs.Layout.{most_arguments, most_words}
use Rattle.cp_model_program.specs.IsProgramFor.{own_words}
use Rattle.cp_model_program.specs.TermsFor.{IsPlain}
use Rattle.cp_model_program.specs.Scopes.{Scope, body_of, unit_of}
use Rattle.cp_model_program.specs.CodedTerms.{CodedCall}
use Rattle.cp_model_program.proofs.Environments.{environment_at}
pub use Rattle.cp_model_program.specs.Known.{place_at}

-- What a unit takes by the meaning, with calls to the given depth.
abbrev pub takes : GlobalScope → ℕ → UnitText → ℕ
takes g d (RoutineOf s r) = needs.activation_words g r + statement_need d g s (Some r) r.body
takes g d (BodyOf s) = statement_need d g s None s.body
takes g d (LeftOut s) = 0

-- What a unit is the code of, and that the unit is in the program and among those compiled so far. It
-- isn't left out if it needs fewer words than the greatest number.
pub record UnitThere (g : GlobalScope) (program : Program) (texts : List UnitText) (before : List CodeUnit) (n : ℕ) (t : UnitText) : Type 0 where
  pub unit : CodeUnit
  pub text : unit.words < most_words → slice_get texts n ≡ Some t
  pub room : unit.words < most_words → own_words g t ≤ unit.words
  pub there : slice_get program.units n ≡ Some unit
  pub earlier : slice_get before n ≡ Some unit
  pub little : (d : ℕ) → n < d → unit.words ≤ takes g d t + most_arguments

-- The running routine is found by its name, and its result is simple.
abbrev pub RoutineHere : Scope → Option Routine → Type 0
RoutineHere scope None = Unit {0}
RoutineHere scope (Some r) = (routine_named r.name scope.system ≡ Some r) × ResultFits scope.globals r.result

-- What is known about a component that is initialised: its body is compiled, and its parameters are
-- simple values and rights with distinct names.
pub record InitRepresents (scope : Scope) (program : Program) (texts : List UnitText) (before : List CodeUnit) (n : Component) : Type 0 where
  pub body : UnitThere scope.globals program texts before (body_of scope n) (BodyOf n.system)
  pub defined : List System
  pub each : Each (SystemParameter scope.globals defined n.system.sort) (declarations scope.globals n.system.parameters)
  pub distinct : Distinct (declarations scope.globals n.system.parameters)

-- What is known at a site. `systems` and `routines` are those that were defined before.
pub record Representing (scope : Scope) (program : Program) (texts : List UnitText) (before : List CodeUnit) (systems : List System) (routines : ℕ) : Type 0 where
  pub running : RoutineHere scope scope.routine
  pub by_value : (x : Name) (v : Variable) → lookup x (permanent_variables scope.globals scope.system) ≡ Some v → v.by_reference ≡ false
  pub no_routine : (x : Name) (v : Variable) → lookup x (permanent_variables scope.globals scope.system) ≡ Some v → routine_named x scope.system ≡ None
  pub no_clock : (at : Location) (o : Owner) (x : Name) → NamesVariable (environment_at scope at o) x → is_clock x ≡ false
  pub units : (at : Location) (o : Owner) (r : Routine) (of : Option Component)
      → ((n : Component) → of ≡ Some n → component_named (environment_at scope at o) n.name ≡ Some n)
      → MayBeCalled (place_at scope systems routines at o) r of
      → UnitThere scope.globals program texts before (unit_of scope (record { routine = r; of = of }))
      (RoutineOf (system_of_callee (environment_at scope at o) of) r)
  pub parameters : (at : Location) (o : Owner) (r : Routine) (of : Option Component) → MayBeCalled (place_at scope systems routines at o) r of
      → Each (RoutineParameter scope.globals (declared.is_function r.result)) (declarations scope.globals r.parameters)
  pub plain : (at : Location) (o : Owner) (d : a.Designator) → TypedPlace (place_at scope systems routines at o) d
      → is_structured (place_type (environment_at scope at o) d) ≡ true → has_queues (place_type (environment_at scope at o) d) ≡ false
      → IsPlain (place_type (environment_at scope at o) d)
  pub inits : (at : Location) (o : Owner) (x : Name) (es : a.Expressions) (i : Initialises (place_at scope systems routines at o) x es)
      → InitRepresents scope program texts before i.component
  pub distinct : Distinct (permanent_variables scope.globals scope.system)
  pub reported : (x : Name) (v : Variable) (r : System) (inner : Members) → lookup x (declarations scope.globals scope.system.variables) ≡ Some v
      → v.type ≡ ComponentOf r inner → inner ≡ reported_members scope.globals r
  pub no_process : (at : Location) (o : Owner) (r : Routine) (n : Component) → MayBeCalled (place_at scope systems routines at o) r (Some n)
      → n.system.sort ≡ a.Process → ⊥

-- ---- Calls that are

module _ (scope : Scope) (program : Program) (texts : List UnitText) (before : List CodeUnit) (unit : CodeUnit) where
  -- The called unit needs no more than there is after the activation, and has room.
  abbrev pub CallFits : Call → Type 0
  CallFits call = (u : CodeUnit) → slice_get before call.routine ≡ Some u
      → (call.words + u.words ≤ unit.words) × (call.temps + u.temps ≤ unit.temps) × (1 + u.frames ≤ unit.frames) × (u.words < most_words)

  -- The calls are in the program from a place on, in order, and the last one leads to the next
  -- place.
  abbrev pub Chained : List CodedCall → ℕ → ℕ → Type 0
  Chained [] place next = place ≡ next
  Chained (c ∷ cs) place next =
      (middle : ℕ) × (operation_at program place ≡ Some (op.Function c.call c.into middle)) × CallFits c.call × Chained cs middle next

  pub split : (cs ds : List CodedCall) (place next : ℕ) → Chained (cs ++ ds) place next
      → (middle : ℕ) × Chained cs place middle × Chained ds middle next
  split [] ds place next h = (place, refl, h)
  split (c ∷ cs) ds place next h =
      let rest : (middle : ℕ) × Chained cs h.0 middle × Chained ds middle next = split cs ds h.0 next h.3 in
      (rest.0, (h.0, h.1, h.2, rest.1), rest.2)
