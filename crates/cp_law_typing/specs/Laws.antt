-- The laws: an accepted text is well typed, and what follows from that and from the static types.
use Rattle.std.specs.Prelude.{◌≡◌, ◌<◌, ◌≤◌, ◌⊎◌, ◌+◌, ℕ, ℤ, true, None, Some, slice_get, take, List}
use Rattle.cp_model.specs.Syntax as s
use Rattle.cp_model.specs.Erase as erase
use Rattle.cp_model.specs.Abstract.{BaseType, Designator, Expression, Group, Known, Monitor, Name, Plain, Process, Routine, System, Tree, Use}
use Rattle.cp_model.specs.Names.{lookup}
use Rattle.cp_model.specs.Rules.{Accepted}
use Rattle.cp_model.specs.Types.{GlobalScope, Simple, named_type}
use Rattle.cp_model.specs.Declarations.{Variable, declarations, globals}
use Rattle.cp_model.specs.Locations.{Location, Owner}
use Rattle.cp_model.specs.Stores.{Store}
use Rattle.cp_model.specs.Operators.{Clock}
use Rattle.cp_model.specs.Outcomes.{Gives}
use Rattle.cp_model.specs.Environments.{Environment, IsConstant, IsVariable, meaning}
use Rattle.cp_model.specs.Places as places
use Rattle.cp_model.specs.Places.{TypedValue}
use Rattle.cp_model.specs.Expressions.{place, value}
use Rattle.cp_model.specs.Components.{Component, count_before, is_component_of}
use Rattle.cp_model.specs.Calls.{UserCall, call_in_task, callee, first_call}
use Rattle.cp_model.specs.Continuations.{Task}
use Rattle.cp_model.specs.States.{Setup, initial_variables, monitor_count, process_count}
use Rattle.cp_law_typing.specs.StaticTypes.{expression_type, place_type}
use Rattle.cp_law_typing.specs.Judgement.{MayBeCalled, Place, TypedExpression, TypedPlace, is_structured}
use Rattle.cp_law_typing.specs.TypedTasks.{Answers, TypedCall, TypedTask}
use Rattle.cp_law_typing.specs.Magnitudes.{AllSmallBounds, AreNegativesWithin, AreSmallDefinitions, AreSmallGroups, IsAbove, IsSmallScope}
use Rattle.cp_law_typing.specs.StartValues.{VariablesStart}
use Rattle.cp_law_typing.specs.Variables.{IsGlobalConstant, IsLocalVariable, IsOwnVariable}
use Rattle.cp_law_typing.specs.WellTyped.{TypedRoutine, WellTyped, routine_place, text_systems}

-- ---- Accepted texts

abbrev pub AcceptedTextsAreWellTyped : Type 0
AcceptedTextsAreWellTyped = (t : s.Tree) (setup : Setup) → Accepted t → setup.tree ≡ erase.abstract t → WellTyped setup

-- ---- Static types

-- Whatever the text and the store, a place has its static type, and so has the value of an
-- expression in which no user call is left.
abbrev pub PlacesHaveStaticTypes : Type 0
PlacesHaveStaticTypes =
    (clock : Clock) (env : Environment) (store : Store) (d : Designator) (p : places.Place)
    → place clock env store d ≡ Gives p → p.type ≡ place_type env d

abbrev pub ValuesHaveStaticTypes : Type 0
ValuesHaveStaticTypes =
    (clock : Clock) (env : Environment) (store : Store) (e known : Expression) (v : TypedValue)
    → first_call env known e ≡ None → value clock env store e ≡ Gives v → v.type ≡ expression_type env e

-- ---- Calls

-- The next call of a typed task may be made and fits. With its value in its place, the task is
-- typed again.
abbrev pub TasksStayTyped : Type 0
TasksStayTyped =
    (p : Place) (b : BaseType) (n : ℤ) (task : Task) (u : UserCall) (after : Task)
    → TypedTask p task → call_in_task (Known b n) task ≡ Some (u, after)
    → TypedCall p u × (Answers p u b → TypedTask p after)

-- A component whose routine may be called has a system type that was defined before, and isn't a
-- process.
abbrev pub CalleesAreDefinedBefore : Type 0
CalleesAreDefinedBefore =
    (setup : Setup) (i : ℕ) (p : Place) (r : Routine) (m : Component)
    → WellTyped setup → p.systems ≡ take i (text_systems setup) → MayBeCalled p r (Some m)
    → (j : ℕ) × (j < i) × (slice_get (text_systems setup) j ≡ Some m.system) × (m.system.sort ≡ Process → ⊥)

-- Within a function its own name isn't a value: it can only be assigned.
abbrev pub ResultsAreAssignedAlone : Type 0
ResultsAreAssignedAlone =
    (g : GlobalScope) (before : List System) (s : System) (k : ℕ) (r : Routine) (t : Name) (at : Location) (o : Owner)
    → TypedRoutine g before s k r → r.result ≡ Some t
    → TypedExpression (routine_place g before s k r at o) (Use (Plain r.name)) → ⊥

-- ---- Names

abbrev pub VariablesLieWhereDeclared : Type 0
VariablesLieWhereDeclared =
    (env : Environment) (x : Name) (at : Location) (v : Variable)
    → meaning env x ≡ IsVariable at v → IsLocalVariable env x at v ⊎ IsOwnVariable env x at v

abbrev pub ConstantsAreGlobal : Type 0
ConstantsAreGlobal =
    (env : Environment) (x : Name) (b : BaseType) (n : ℤ) → meaning env x ≡ IsConstant b n → IsGlobalConstant env x b n

-- a value of an array or record type is that of a variable, or of a part of one
abbrev pub StructuredValuesAreVariables : Type 0
StructuredValuesAreVariables =
    (p : Place) (e : Expression) → TypedExpression p e → is_structured (expression_type p.env e) ≡ true
    → (d : Designator) × (e ≡ Use d) × (callee p.env d ≡ None) × TypedPlace p d × (place_type p.env d ≡ expression_type p.env e)

-- ---- Numbers

-- the numbers of processes and monitors are at most their counts
abbrev pub ProcessesAreNumbered : Type 0
ProcessesAreNumbered =
    (setup : Setup) (x : Name) (v : Variable) → lookup x (initial_variables setup) ≡ Some v → is_component_of Process v.type ≡ true
    → 2 + count_before Process x (initial_variables setup) ≤ process_count setup

abbrev pub MonitorsAreNumbered : Type 0
MonitorsAreNumbered =
    (setup : Setup) (x : Name) (v : Variable) → lookup x (initial_variables setup) ≡ Some v → is_component_of Monitor v.type ≡ true
    → 1 + count_before Monitor x (initial_variables setup) ≤ monitor_count setup

-- ---- Bounds

-- If all numbers of the definitions are at most n, and n is at least 32768, then so are the bounds
-- and ordinals of all types, and those of declarations with such numbers.
abbrev pub BoundsAreAsWritten : Type 0
BoundsAreAsWritten =
    (n : ℕ) (tree : Tree) → 32768 ≤ n → AreSmallDefinitions n tree.definitions
    → IsSmallScope n (globals tree) × ((gs : List Group) → AreSmallGroups n gs → AllSmallBounds n (declarations (globals tree) gs))

-- If all numbers after a minus are at most n, and n is at least 32768, then no named type begins
-- further below 0 than n.
abbrev pub LowerBoundsAreAsWritten : Type 0
LowerBoundsAreAsWritten =
    (n : ℕ) (tree : Tree) (x : Name) (b : BaseType) (low high start : ℤ) → 32768 ≤ n → AreNegativesWithin n tree.definitions
    → named_type (globals tree) x ≡ Simple b low high start → IsAbove n low

-- ---- The start

-- each leaf of each variable of the initial process, and of each process and monitor, has its start value
abbrev pub VariablesHaveStartValues : Type 0
VariablesHaveStartValues = (setup : Setup) → WellTyped setup → VariablesStart setup
