-- When a scope is the one that code is compiled with, and what its queries find.
use Rattle.std.specs.Prelude.{◌≡◌, ℕ, List, [], Option, None, Some, map}
use Rattle.std.specs.Borrow.{Bor}
use Rattle.cp_model.specs.Abstract.{Name, Routine, System}
use Rattle.cp_model.specs.Calls as calls
use Rattle.cp_model.specs.Declarations.{Variable, declarations}
use Rattle.cp_model.specs.Components as components
use Rattle.cp_model.specs.Environments as environments
use Rattle.cp_model.specs.Names.{lookup}
use Rattle.cp_model.specs.Environments.{local_variables, result_variable}
use Rattle.cp_model.specs.Erase as erase
use Rattle.cp_model.specs.View as view
use Rattle.cp_model.specs.Types.{GlobalScope}
use Rattle.cp_model.specs.declared.tree.Fields.{Fields}
use Rattle.cp_model.specs.declared.tree.Parameters.{Parameters}
use Rattle.cp_model.specs.declared.tree.Routine as tree
use Rattle.cp_model_program.specs.Layout.{activation_words}
use Rattle.cp_model_program.specs.Scopes as code
use Rattle.cp_model_program.specs.Scopes.{environment, routine_index}
use Rattle.cp_model_program.specs.Sites.{system_of_callee}
use Rattle.cp_compile_symbols.specs.declared.routines.RoutineTable.{RoutineTable}
use Rattle.cp_compile_symbols.specs.declared.scope.Callee.{Callee}
use Rattle.cp_compile_symbols.specs.declared.systems.Component.{Component}
use Rattle.cp_compile_symbols.specs.declared.scope.Meaning.{Meaning}
use Rattle.cp_compile_symbols.specs.declared.scope.Meaning.TheVariants as meaning
use Rattle.cp_compile_symbols.specs.declared.scope.Scope.{Scope}
use Rattle.cp_compile_symbols.specs.declared.types.Types.{Types}
use Rattle.cp_compile_symbols.specs.Layouts.{EachIsLaid}
use Rattle.cp_compile_symbols.specs.Routines.{RoutineRepresents}
use Rattle.cp_compile_symbols.specs.Representing.{ScopeRepresents, Represents, value_of}
use Rattle.cp_compile_symbols.specs.Systems.{ComponentIs, IsComponent, IsIndexed, SystemRepresents, routines_of}
use Rattle.cp_compile_symbols.specs.Texts.{AreSystems}

-- The system type declares these parameters, variables and routines.
pub record IsWritten (s : System) (ps : List Parameters) (vs : List Fields) (rs : List tree.Routine) : Type 0 where
  pub parameters : s.parameters ≡ map erase.parameter_group (map view.parameters ps)
  pub variables : s.variables ≡ map erase.variable_group (map view.variables vs)
  pub routines : s.routines ≡ routines_of rs

abbrev pub IsRoutine : GlobalScope → Types → Option (Bor RoutineTable) → Option Routine → Type 0
IsRoutine g types None None = Unit {0}
IsRoutine g types (Some t) (Some r) = RoutineRepresents g types t.now r
IsRoutine g types _ _ = ⊥

-- The size of an activation in words. A body has none.
abbrev pub words_of : GlobalScope → Option Routine → ℕ
words_of g None = 0
words_of g (Some r) = activation_words g r

-- The scope is that of a unit: its tables represent the text, the system type and the routine of
-- `s`.
pub record IsScope (scope : Scope) (s : code.Scope) : Type 0 where
  pub parameters : List Parameters
  pub variables : List Fields
  pub routines : List tree.Routine
  pub written : IsWritten s.system parameters variables routines
  pub names : ScopeRepresents scope.tables.now.names scope.tables.now.types s.globals
  pub laid : EachIsLaid s.globals scope.tables.now.types scope.tables.now.layouts.rows.items
  pub systems : AreSystems s.globals scope.tables.now.types scope.tables.now.systems.items
  pub system : SystemRepresents s.globals scope.tables.now.types scope.system.now parameters variables routines
  pub routine : IsRoutine s.globals scope.tables.now.types scope.routine s.routine
  pub firsts : (x : Name) → lookup x scope.firsts.now ≡ lookup x s.firsts
  pub first : s.first ≡ scope.first
  pub words : s.words ≡ words_of s.globals s.routine

-- ---- Calls

-- The called routine, its number in its system type, and its component if that is another one.
pub record IsCallee (scope : Scope) (s : code.Scope) (found : Callee) (c : calls.Callee) : Type 0 where
  pub routine : IsIndexed s.globals scope.tables.now.types (system_of_callee (environment s) c.of).routines found.routine c.routine
  pub of : ComponentIs scope.tables.now.types (declarations s.globals s.system.parameters) (declarations s.globals s.system.variables) found.of c.of

abbrev pub CalleeIs : Scope → code.Scope → Option Callee → Option calls.Callee → Type 0
CalleeIs scope s None None = Unit {0}
CalleeIs scope s (Some f) (Some c) = IsCallee scope s f c
CalleeIs scope s _ _ = ⊥

-- `found` is the component `n` that a name of the scope means.
abbrev pub Names : Scope → code.Scope → Component → components.Component → Type 0
Names scope s found n =
    IsComponent scope.tables.now.types (declarations s.globals s.system.parameters) (declarations s.globals s.system.variables) found n

-- ---- Meanings

abbrev pub VariableIs : Types → Option ℕ → Option Variable → Type 0
VariableIs types None None = Unit {0}
VariableIs types (Some n) (Some v) = Represents types n v.type
VariableIs types _ _ = ⊥

-- The variable that holds the result of the routine, if it has a result.
abbrev pub results_of : GlobalScope → Option Routine → List (Name × Variable)
results_of g None = []
results_of g (Some r) = result_variable g r.name r.result

abbrev pub locals_of : GlobalScope → Option Routine → List (Name × Variable)
locals_of g None = []
locals_of g (Some r) = local_variables g r

-- A constant has this value, and a variable has the type of this number.
abbrev pub MeaningIs : Types → Meaning → environments.Meaning → Type 0
MeaningIs types (meaning.Constant v) (environments.IsConstant b n) = value_of v ≡ (b, n)
MeaningIs types (meaning.Variable of) (environments.IsVariable at v) = Represents types of v.type
MeaningIs types meaning.Unknown environments.IsUnknown = Unit {0}
MeaningIs types _ _ = ⊥
