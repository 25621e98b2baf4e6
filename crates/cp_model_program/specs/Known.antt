-- What the law of the compiler needs to know about a text.
use Rattle.std.specs.Prelude.{◌≡◌, ℕ, ℤ, int_le, Bool, true, false, List, [], ◌∷◌, ◌++◌, Option, Some, None, slice_get}
use Rattle.cp_model.specs.Syntax as s
use Rattle.cp_model.specs.Erase as erase
use Rattle.cp_model.specs.Abstract as a
use Rattle.cp_model.specs.Abstract.{BaseType, Definition, Name, Routine, System}
use Rattle.cp_model.specs.Names.{lookup}
use Rattle.cp_model.specs.Rules.{Accepted}
use Rattle.cp_model.specs.Types.{ArrayOf, ComponentOf, GlobalScope, Members, MoreMembers, NoMembers, NoType, Queue, RecordOf, ResolvedType, Simple, named_type, standard_scope}
use Rattle.cp_model.specs.Declarations.{Variable, declarations, define, globals, reported_members}
use Rattle.cp_model.specs.Environments.{permanent_variables}
use Rattle.cp_model.specs.Locations.{Location, Owner}
use Rattle.cp_model.specs.Places.{within}
use Rattle.cp_model_program.specs.Starts.{unset}
use Rattle.cp_model.specs.Components.{Component, component_named}
use Rattle.cp_model.specs.States.{Setup, initial_variables}
use Rattle.cp_law_typing.specs.Judgement.{NamesVariable, Place, TypedPlace, has_queues, is_structured}
use Rattle.cp_law_typing.specs.Magnitudes.{AreNegativesWithin}
use Rattle.cp_law_typing.specs.Needs.{some_environment}
use Rattle.cp_law_typing.specs.StaticTypes.{is_clock, place_type}
use Rattle.cp_law_typing.specs.WellTyped.{TypedBodies, TypedSystem, WellTyped, text_systems}
use Rattle.cp_model_program.specs.IsProgramFor.{IsProgramFor}
use Rattle.cp_model_program.specs.TermsFor.{IsPlain}
use Rattle.cp_model_program.specs.Scopes.{Scope, declared_type, environment_at, groups_of}
use Rattle.cp_model_program.specs.ParameterCounts.{are_short}
use Rattle.cp_model_program.specs.Compile.{compile}

-- ---- Types

-- The types that can be planned: arrays have elements, and components occur only where the words
-- are 0 before.
abbrev mutual
  pub Plannable : Bool → ResolvedType → Type 0
  Plannable zeros (Simple b low high start) = Unit {0}
  Plannable zeros (ArrayOf low high t) = (int_le low high ≡ true) × Plannable zeros t
  Plannable zeros (RecordOf ms) = PlannableMembers zeros ms
  Plannable zeros Queue = Unit {0}
  Plannable zeros (ComponentOf s inner) = (zeros ≡ true) × PlannableMembers zeros inner
  Plannable zeros NoType = Unit {0}

  pub PlannableMembers : Bool → Members → Type 0
  PlannableMembers zeros NoMembers = Unit {0}
  PlannableMembers zeros (MoreMembers x t ms) = Plannable zeros t × PlannableMembers zeros ms

-- ---- System types

abbrev pub place_at : Scope → List System → ℕ → Location → Owner → Place
place_at scope systems routines at o = record { env = environment_at scope at o; systems = systems; routines = routines }

-- The running routine is a routine of the system type, or none is running.
abbrev pub RunsIn : System → Option Routine → Type 0
RunsIn s None = Unit {0}
RunsIn s (Some r) = (k : ℕ) × (slice_get s.routines k ≡ Some r)

-- What is known of a system type in the scope of the text: its bodies are typed with the system
-- types `systems` defined before. Its variables are not `var` parameters, its components have the
-- members that are reported, no variable is the clock, and arrays and records that are copied are
-- plain. The system types before it are typed.
pub record SystemKnown (g : GlobalScope) (s : System) (systems : List System) : Type 0 where
  pub bodies : TypedBodies g systems s
  pub by_value : (x : Name) (v : Variable) → lookup x (permanent_variables g s) ≡ Some v → v.by_reference ≡ false
  pub reported : (x : Name) (v : Variable) (r : System) (inner : Members) → lookup x (declarations g s.variables) ≡ Some v → v.type ≡ ComponentOf r inner
      → inner ≡ reported_members g r
  pub no_clock : (scope : Scope) (at : Location) (o : Owner) (x : Name) → scope.globals ≡ g → scope.system ≡ s → RunsIn s scope.routine
      → NamesVariable (environment_at scope at o) x
      → is_clock x ≡ false
  pub plain : (scope : Scope) (routines : ℕ) (at : Location) (o : Owner) (d : a.Designator) → scope.globals ≡ g → scope.system ≡ s → RunsIn s scope.routine
      → TypedPlace (place_at scope systems routines at o) d → is_structured (place_type (environment_at scope at o) d) ≡ true
      → has_queues (place_type (environment_at scope at o) d) ≡ false → IsPlain (place_type (environment_at scope at o) d)
  pub systems_typed : (i : ℕ) (q : System) → slice_get systems i ≡ Some q → (before : List System) × TypedSystem g before q

-- ---- Texts

-- Each component that a system type names has a type that was defined before.
abbrev pub NamedBefore : GlobalScope → GlobalScope → System → Type 0
NamedBefore g h s = (n : Component) → component_named (some_environment g s None) n.name ≡ Some n
    → (inner : Members) × (lookup (declared_type n.name (groups_of n.is_parameter s)) h.types ≡ Some (ComponentOf n.system inner))

abbrev pub InOrder : GlobalScope → GlobalScope → List System → List Definition → Type 0
InOrder g h ys [] = Unit {0}
InOrder g h ys (a.SystemDef x s ∷ ds) = SystemKnown g s ys × NamedBefore g h s × InOrder g (define h (a.SystemDef x s)) (ys ++ s ∷ []) ds
InOrder g h ys (a.TypeDef x t ∷ ds) = InOrder g (define h (a.TypeDef x t)) ys ds
InOrder g h ys (a.EnumDef x vs ∷ ds) = InOrder g (define h (a.EnumDef x vs)) ys ds
InOrder g h ys (a.ConstantDef x c ∷ ds) = InOrder g (define h (a.ConstantDef x c)) ys ds

-- What is known of a text: its system types in order, its initial process, and that components can
-- be planned and have one layout.
pub record TextKnown (setup : Setup) : Type 0 where
  pub in_order : InOrder (globals setup.tree) standard_scope [] setup.tree.definitions
  pub initial : SystemKnown (globals setup.tree) setup.tree.initial (text_systems setup)
  pub named : NamedBefore (globals setup.tree) (globals setup.tree) setup.tree.initial
  pub no_parameters : setup.tree.initial.parameters ≡ []
  pub initial_planned : PlannableMembers true (reported_members (globals setup.tree) setup.tree.initial)
  pub planned : (x : Name) (v : Variable) (s : System) (inner : Members) → lookup x (initial_variables setup) ≡ Some v → v.type ≡ ComponentOf s inner → PlannableMembers true (reported_members (globals setup.tree) s)
  pub members : (s : System) (inner : Members) (x : Name) → named_type (globals setup.tree) x ≡ ComponentOf s inner → inner ≡ reported_members (globals setup.tree) s
  pub set_apart : (x : Name) (b : BaseType) (low high start n : ℤ) → named_type (globals setup.tree) x ≡ Simple b low high start
      → within low high n ≡ true → n ≡ unset → ⊥
  pub typed : WellTyped setup

-- ---- From the typing

-- What the typing of a text, part by part, says about a system type: no variable is the clock, and
-- what is copied is plain.
pub record SystemFacts (g : GlobalScope) (s : System) : Type 0 where
  pub no_clock : (scope : Scope) (at : Location) (o : Owner) (x : Name) → scope.globals ≡ g → scope.system ≡ s → RunsIn s scope.routine
      → NamesVariable (environment_at scope at o) x → is_clock x ≡ false
  pub plain : (systems : List System) (scope : Scope) (routines : ℕ) (at : Location) (o : Owner) (d : a.Designator) → scope.globals ≡ g → scope.system ≡ s
      → RunsIn s scope.routine
      → TypedPlace (place_at scope systems routines at o) d → is_structured (place_type (environment_at scope at o) d) ≡ true
      → has_queues (place_type (environment_at scope at o) d) ≡ false → IsPlain (place_type (environment_at scope at o) d)

abbrev pub NamesInOrder : GlobalScope → GlobalScope → List Definition → Type 0
NamesInOrder g h [] = Unit {0}
NamesInOrder g h (a.SystemDef x s ∷ ds) = NamedBefore g h s × NamesInOrder g (define h (a.SystemDef x s)) ds
NamesInOrder g h (a.TypeDef x t ∷ ds) = NamesInOrder g (define h (a.TypeDef x t)) ds
NamesInOrder g h (a.EnumDef x vs ∷ ds) = NamesInOrder g (define h (a.EnumDef x vs)) ds
NamesInOrder g h (a.ConstantDef x c ∷ ds) = NamesInOrder g (define h (a.ConstantDef x c)) ds

-- What it says about a text: types are defined before they are named, a component has one layout
-- wherever its type is named, and no value of a type is the mark of an unset result.
pub record TextFacts (setup : Setup) : Type 0 where
  pub systems : (i : ℕ) (s : System) → slice_get (text_systems setup) i ≡ Some s → SystemFacts (globals setup.tree) s
  pub initial : SystemFacts (globals setup.tree) setup.tree.initial
  pub in_order : NamesInOrder (globals setup.tree) standard_scope setup.tree.definitions
  pub members : (s : System) (inner : Members) (x : Name) → named_type (globals setup.tree) x ≡ ComponentOf s inner
      → inner ≡ reported_members (globals setup.tree) s
  pub set_apart : (x : Name) (b : BaseType) (low high start n : ℤ) → named_type (globals setup.tree) x ≡ Simple b low high start
      → within low high n ≡ true → n ≡ unset → ⊥

-- ---- The law

-- The program that the compiler makes of a text represents it, whatever its input and its clock, if its
-- system types have few parameters.
abbrev pub HasProgram : s.Tree → Type 0
HasProgram t = (setup : Setup) → setup.tree ≡ erase.abstract t → are_short setup.tree.definitions ≡ true → IsProgramFor (compile setup.tree) setup

-- The numbers of tokens have 16 bits. No rule says so about a tree, and the mark of an unset result
-- has 32 bits.
abbrev pub AcceptedTextsHavePrograms : Type 0
AcceptedTextsHavePrograms = (t : s.Tree) → Accepted t → AreNegativesWithin 65535 (erase.abstract t).definitions → HasProgram t
