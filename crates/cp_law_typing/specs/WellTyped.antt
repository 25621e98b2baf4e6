-- When a text is well typed: its system types in text order, the initial process, its counts and its words.
use Rattle.std.specs.Prelude.{◌≡◌, ◌≤◌, ℕ, ℤ, true, false, List, [], ◌∷◌, ◌++◌, None, Some, slice_get, length, take}
use Rattle.cp_model.specs.Abstract.{BaseType, ConstantDef, Definition, EnumDef, Name, Process, Routine, System, SystemDef, TypeDef}
use Rattle.cp_model.specs.Names.{lookup}
use Rattle.cp_model.specs.Types.{ComponentOf, GlobalScope, ResolvedType, standard_scope}
use Rattle.cp_model.specs.Declarations.{Variable, declarations, define, globals, reported_members}
use Rattle.cp_model.specs.Locations.{Location, Owner}
use Rattle.cp_model.specs.Environments.{local_variables, permanent_variables}
use Rattle.cp_model.specs.Calls.{routine_named}
use Rattle.cp_model.specs.States.{Setup, initial_variables, monitor_count, process_count}
use Rattle.cp_law_typing.specs.Judgement.{Place, TypedStatement}
use Rattle.cp_law_typing.specs.Declared.{AllFormed, Each, Distinct, InitialVariable, ResultFits, RoutineParameter, RoutineVariable, SystemParameter, SystemVariable, is_function}
use Rattle.cp_law_typing.specs.StaticTypes.{is_clock}
use Rattle.cp_law_typing.specs.Systems.{systems_of}
use Rattle.cp_law_typing.specs.Needs.{WordsFit}
use Rattle.cp_law_typing.specs.PassedRights.{PassesInOrder}
use Rattle.cp_law_typing.specs.TypePlaces.{type_place}

-- ---- Where statements are

-- The place of statements in the body of a component, wherever it is, and of those in an
-- activation of its routine k, whoever owns the activation.
abbrev pub body_place : GlobalScope → List System → System → Location → Place
body_place g before s at = record {
  env = record { globals = g; system = s; component = at; frame = None };
  systems = before;
  routines = length s.routines;
}

abbrev pub routine_place : GlobalScope → List System → System → ℕ → Routine → Location → Owner → Place
routine_place g before s k r at o = record {
  env = record { globals = g; system = s; component = at; frame = Some (record { owner = o; routine = r }) };
  systems = before;
  routines = k;
}

-- ---- Routines and bodies

-- no variable is the clock
abbrev pub NoClock : List (Name × Variable) → Type 0
NoClock vs = (x : Name) (v : Variable) → lookup x vs ≡ Some v → is_clock x ≡ false

-- Routine k of a system type. None of its own names is a name of the component.
pub record TypedRoutine (g : GlobalScope) (before : List System) (s : System) (k : ℕ) (r : Routine) : Type 0 where
  pub found : routine_named r.name s ≡ Some r
  pub alone : (j : ℕ) (q : Routine) → slice_get s.routines j ≡ Some q → q.name ≡ r.name → j ≡ k
  pub entry : r.entry ≡ true → s.sort ≡ Process → ⊥
  pub parameters : Each (RoutineParameter g (is_function r.result)) (declarations g r.parameters)
  pub variables : Each (RoutineVariable g) (declarations g r.variables)
  pub result : ResultFits g r.result
  pub distinct : Distinct (local_variables g r ++ permanent_variables g s)
  pub no_clock : NoClock (local_variables g r)
  pub body : (at : Location) (o : Owner) → TypedStatement (routine_place g before s k r at o) r.body

pub record TypedBodies (g : GlobalScope) (before : List System) (s : System) : Type 0 where
  pub distinct : Distinct (permanent_variables g s)
  pub no_clock : NoClock (permanent_variables g s)
  pub no_routine : (x : Name) (v : Variable) → lookup x (permanent_variables g s) ≡ Some v → routine_named x s ≡ None
  pub routines : (k : ℕ) (r : Routine) → slice_get s.routines k ≡ Some r → TypedRoutine g before s k r
  pub body : (at : Location) → TypedStatement (body_place g before s at) s.body

-- a system type, after the system types that were defined before it
pub record TypedSystem (g : GlobalScope) (before : List System) (s : System) : Type 0 where
  pub parameters : Each (SystemParameter g before s.sort) (declarations g s.parameters)
  pub variables : Each (SystemVariable g before s.sort) (declarations g s.variables)
  pub bodies : TypedBodies g before s

-- ---- Definitions in text order

-- a scope that defines more: what is found in g is also found in h
pub record Later (g h : GlobalScope) : Type 0 where
  pub constants : (x : Name) (v : BaseType × ℤ) → lookup x g.constants ≡ Some v → lookup x h.constants ≡ Some v
  pub types : (x : Name) (r : ResolvedType) → lookup x g.types ≡ Some r → lookup x h.types ≡ Some r

-- The scope g of the text has everything that is found in the scope before the definition of a
-- system type, and g has the system type by its name. The system type is also typed in the scope
-- before.
abbrev pub TypedInOrder : GlobalScope → GlobalScope → List System → List Definition → Type 0
TypedInOrder g h before [] = Unit {0}
TypedInOrder g h before (SystemDef x s ∷ ds) =
    (Later h g × TypedSystem h before s × (lookup x g.types ≡ Some (ComponentOf s (reported_members h s))))
    × TypedInOrder g (define h (SystemDef x s)) (before ++ s ∷ []) ds
TypedInOrder g h before (TypeDef x t ∷ ds) = TypedInOrder g (define h (TypeDef x t)) before ds
TypedInOrder g h before (EnumDef x vs ∷ ds) = TypedInOrder g (define h (EnumDef x vs)) before ds
TypedInOrder g h before (ConstantDef x c ∷ ds) = TypedInOrder g (define h (ConstantDef x c)) before ds

-- ---- The whole text

abbrev pub text_systems : Setup → List System
text_systems setup = systems_of setup.tree.definitions

-- The initial process is one of the processes that are counted.
pub record WellTyped (setup : Setup) : Type 0 where
  pub systems : (i : ℕ) (s : System) → slice_get (text_systems setup) i ≡ Some s
      → TypedSystem (globals setup.tree) (take i (text_systems setup)) s
  pub initial_parameters : setup.tree.initial.parameters ≡ []
  pub initial_sort : setup.tree.initial.sort ≡ Process
  pub initial_variables : Each (InitialVariable (globals setup.tree) (text_systems setup)) (initial_variables setup)
  pub initial_bodies : TypedBodies (globals setup.tree) (text_systems setup) setup.tree.initial
  pub processes : process_count setup ≤ 255
  pub monitors : monitor_count setup ≤ 255
  pub types : AllFormed (globals setup.tree) (globals setup.tree).types
  pub in_order : TypedInOrder (globals setup.tree) standard_scope [] setup.tree.definitions
  pub passes : PassesInOrder (type_place setup) setup
  pub words : WordsFit setup
