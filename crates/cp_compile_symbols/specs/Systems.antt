-- When the table of a system type is right.
use Rattle.std.specs.Prelude.{◌≡◌, Bool, true, false, ℕ, suc, List, [], ◌∷◌, Option, None, Some, filter, find, if◌then◌else◌, map}
use Rattle.std.specs.Borrow.{Bor}
use Rattle.std.specs.Option.{option_or}
use Rattle.std.specs.Str.{bytes_eq}
use Rattle.cp_model.specs.Abstract.{Monitor, Name, Process, Routine}
use Rattle.cp_model.specs.Components as c
use Rattle.cp_model.specs.Components.{count_before}
use Rattle.cp_model.specs.Declarations.{Variable, is_component}
use Rattle.cp_model.specs.Erase as erase
use Rattle.cp_model.specs.View as view
use Rattle.cp_model.specs.Names.{lookup}
use Rattle.cp_model.specs.Types.{GlobalScope}
use Rattle.cp_model.specs.declared.tree.Fields.{Fields}
use Rattle.cp_model.specs.declared.tree.Parameters.{Parameters}
use Rattle.cp_model.specs.declared.tree.Routine as tree
use Rattle.cp_model.specs.declared.tree.System.{System}
use Rattle.cp_model_program.specs.Layout.{right_at}
use Rattle.cp_model_program.specs.Scopes.{routine_index}
use Rattle.cp_compile_symbols.specs.declared.layout.Layout.{Layout}
use Rattle.cp_compile_symbols.specs.declared.names.Names.{Names}
use Rattle.cp_compile_symbols.specs.declared.routines.RoutineTable.{RoutineTable}
use Rattle.cp_compile_symbols.specs.declared.numbering.Numbered.{Numbered}
use Rattle.cp_compile_symbols.specs.declared.systems.Component.{Component}
use Rattle.cp_compile_symbols.specs.declared.systems.IndexedRoutine.{IndexedRoutine}
use Rattle.cp_compile_symbols.specs.declared.systems.SystemTable.{SystemTable}
use Rattle.cp_compile_symbols.specs.declared.types.Types.{Types}
use Rattle.cp_compile_symbols.specs.Components.{RightIs, own_members}
use Rattle.cp_compile_symbols.specs.Layouts.{AreLaid, MembersLie, rights_of}
use Rattle.cp_compile_symbols.specs.Routines.{Builds, RoutineRepresents}
use Rattle.cp_compile_symbols.specs.Numbering.{NumberedIs, system_of}
use Rattle.cp_compile_symbols.specs.TypeNames.{AreTypeNames}
use Rattle.cp_compile_symbols.specs.Representing.{Grows, ScopeRepresents, row_at, system_at}
use Rattle.cp_compile_symbols.specs.Variables.{AreDeclared, declared_entry, parameters_of, variables_of}

-- The tables are those of these routines, one by one.
abbrev pub AreRoutines : GlobalScope → Types → List RoutineTable → List Routine → Type 0
AreRoutines g types [] [] = Unit {0}
AreRoutines g types (t ∷ ts) (r ∷ rs) = RoutineRepresents g types t r × AreRoutines g types ts rs
AreRoutines g types _ _ = ⊥

abbrev pub routines_of : List tree.Routine → List Routine
routines_of texts = map erase.routine (map view.routine texts)

-- The number of the first routine named `x`, if the first routine in the list has the number `n`.
abbrev pub routine_number : Name → ℕ → List Routine → Option ℕ
routine_number x n [] = None
routine_number x n (r ∷ rs) = if bytes_eq x r.name then Some n else routine_number x (suc n) rs

pub record MakesRoutines (names : Names) (old new : Types) (before after : List Layout) (texts : List tree.Routine) (tables : List RoutineTable) : Type 0 where
  pub builds : Builds names old new before after
  pub represents : (g : GlobalScope) (later : Types) → ScopeRepresents names old g → AreLaid g old before → Grows new later
      → AreRoutines g later tables (routines_of texts)

-- The table is that of a system type with these parameters, variables and routines.
pub record SystemRepresents (g : GlobalScope) (types : Types) (table : SystemTable) (ps : List Parameters) (vs : List Fields) (rs : List tree.Routine) : Type 0 where
  pub parameters : AreDeclared types (map declared_entry table.parameters.items) (parameters_of g ps)
  pub variables : AreDeclared types (map declared_entry table.variables.items) (variables_of g vs)
  pub members : MembersLie g types (suc (rights_of g ps)) (own_members g ps vs) table.members
  pub rights : (x : Name) → RightIs types (lookup x table.rights) (right_at 1 (filter (λ v. is_component v.1.type) (parameters_of g ps)) x)
  pub parameter_names : (x : Name) → NumberedIs types (parameters_of g ps) x (lookup x table.parameter_names) (lookup x (parameters_of g ps))
  pub variable_names : (x : Name) → NumberedIs types (variables_of g vs) x (lookup x table.variable_names) (lookup x (variables_of g vs))
  pub parameter_types : AreTypeNames table.parameter_types (map erase.parameter_group (map view.parameters ps))
  pub variable_types : AreTypeNames table.variable_types (map erase.variable_group (map view.variables vs))
  pub routines : AreRoutines g types table.routines.items (routines_of rs)
  pub routine_names : (x : Name) → lookup x table.routine_names ≡ routine_number x 0 (routines_of rs)

pub record MakesSystem (names : Names) (old new : Types) (before after : List Layout) (ps : List Parameters) (vs : List Fields) (rs : List tree.Routine) (table : SystemTable)
    : Type 0 where
  pub builds : Builds names old new before after
  pub represents : (g : GlobalScope) (later : Types) → ScopeRepresents names old g → AreLaid g old before → Grows new later
      → SystemRepresents g later table ps vs rs

-- ---- Routines

-- `found` has the table of the routine `r` and its index in `rs`.
pub record IsIndexed (g : GlobalScope) (types : Types) (rs : List Routine) (found : IndexedRoutine) (r : Routine) : Type 0 where
  pub table : RoutineRepresents g types found.table.now r
  pub index : routine_index r.name rs ≡ found.index

abbrev pub RoutineIs : GlobalScope → Types → List Routine → Option IndexedRoutine → Option Routine → Type 0
RoutineIs g types rs None None = Unit {0}
RoutineIs g types rs (Some f) (Some r) = IsIndexed g types rs f r
RoutineIs g types rs _ _ = ⊥

abbrev pub RoutineFound : SystemTable → Name → Option IndexedRoutine → Type 0
RoutineFound table x found =
    (g : GlobalScope) (types : Types) (ps : List Parameters) (vs : List Fields) (rs : List tree.Routine) → SystemRepresents g types table ps vs rs
    → RoutineIs g types (routines_of rs) found (find (λ r. bytes_eq x r.name) (routines_of rs))

-- ---- Components

abbrev pub component_with : Bor Name → Numbered → Bool → Option ℕ → Option Component
component_with x n p None = None
component_with x n p (Some k) =
    Some (record { name = x; system = k; is_parameter = p; monitors = n.monitors; processes = n.processes })

abbrev pub component_of_name : Types → Bor Name → Bool → Option Numbered → Option Component
component_of_name types x p None = None
component_of_name types x p (Some n) = component_with x n p (system_of (row_at types n.of))

-- The component that a name means among these parameters and variables.
abbrev pub component_among : List (Name × Variable) → List (Name × Variable) → Name → Option c.Component
component_among ps vs x = option_or (c.as_component x true (lookup x ps)) (c.as_component x false (lookup x vs))

-- `found` has the name, the system type and the kind of the component `n`, and the numbers of
-- monitors and processes before it.
pub record IsComponent (types : Types) (ps vs : List (Name × Variable)) (found : Component) (n : c.Component) : Type 0 where
  pub name : found.name.now ≡ n.name
  pub text : Bor System
  pub there : system_at types found.system ≡ Some text
  pub system : erase.system (view.system text.now) ≡ n.system
  pub parameter : found.is_parameter ≡ n.is_parameter
  pub monitors : count_before Monitor n.name (if n.is_parameter then ps else vs) ≡ found.monitors
  pub processes : count_before Process n.name (if n.is_parameter then ps else vs) ≡ found.processes

abbrev pub ComponentIs : Types → List (Name × Variable) → List (Name × Variable) → Option Component → Option c.Component → Type 0
ComponentIs types ps vs None None = Unit {0}
ComponentIs types ps vs (Some f) (Some n) = IsComponent types ps vs f n
ComponentIs types ps vs _ _ = ⊥

abbrev pub ComponentFound : Types → SystemTable → Name → Option Component → Type 0
ComponentFound types table x found =
    (g : GlobalScope) (ps : List Parameters) (vs : List Fields) (rs : List tree.Routine) → SystemRepresents g types table ps vs rs
    → ComponentIs types (parameters_of g ps) (variables_of g vs) found (component_among (parameters_of g ps) (variables_of g vs) x)
