-- When the table of a routine is right.
use Rattle.std.specs.Prelude.{◌≡◌, ℕ, List, Option, None, Some, map}
use Rattle.cp_model.specs.Abstract.{Name, Routine}
use Rattle.cp_model.specs.Declarations.{declarations}
use Rattle.cp_model.specs.Erase as erase
use Rattle.cp_model.specs.View as view
use Rattle.cp_model.specs.Types.{GlobalScope, named_type}
use Rattle.cp_model.specs.declared.tree.Identifier.{Identifier}
use Rattle.cp_model.specs.declared.tree.Routine as tree
use Rattle.cp_law_typing.specs.Needs.{result_words}
use Rattle.cp_model_program.specs.Layout as code
use Rattle.cp_compile_symbols.specs.declared.layout.Layout.{Layout}
use Rattle.cp_compile_symbols.specs.declared.names.Names.{Names}
use Rattle.cp_compile_symbols.specs.declared.routines.RoutineTable.{RoutineTable}
use Rattle.cp_compile_symbols.specs.declared.types.Types.{Types}
use Rattle.cp_compile_symbols.specs.Layouts.{AreLaid}
use Rattle.cp_compile_symbols.specs.Locals.{LocalsLie}
use Rattle.cp_compile_symbols.specs.Representing.{Grows, ScopeRepresents, Represents}
use Rattle.cp_compile_symbols.specs.Variables.{AreDeclared, declared_entry}

-- The number of the type of the result, or `None` if there is no result.
abbrev pub ResultIs : GlobalScope → Types → Option ℕ → Option Name → Type 0
ResultIs g types None None = Unit {0}
ResultIs g types (Some n) (Some x) = Represents types n (named_type g x)
ResultIs g types _ _ = ⊥

pub record MakesResult (names : Names) (old new : Types) (of : Option Identifier) (r : Option ℕ) : Type 0 where
  pub grows : Grows old new
  pub represents : (g : GlobalScope) → ScopeRepresents names old g → ResultIs g new r (erase.name_if of)

-- The table is that of the routine `r`, with the layout of its activations.
pub record RoutineRepresents (g : GlobalScope) (types : Types) (table : RoutineTable) (r : Routine) : Type 0 where
  pub name : table.name.now ≡ r.name
  pub parameters : AreDeclared types (map declared_entry table.parameters.items) (declarations g r.parameters)
  pub variables : AreDeclared types (map declared_entry table.variables.items) (declarations g r.variables)
  pub locals : LocalsLie g types (result_words r.result) (code.locals g r) table.locals
  pub result : ResultIs g types table.result r.result

-- More types and layouts are made, and the layouts are right for them.
pub record Builds (names : Names) (old new : Types) (before after : List Layout) : Type 0 where
  pub grows : Grows old new
  pub laid : (g : GlobalScope) → ScopeRepresents names old g → AreLaid g old before → AreLaid g new after

-- In addition, the table of a routine is made.
pub record MakesRoutine (names : Names) (old new : Types) (before after : List Layout) (text : tree.Routine) (table : RoutineTable) : Type 0 where
  pub builds : Builds names old new before after
  pub represents : (g : GlobalScope) (later : Types) → ScopeRepresents names old g → AreLaid g old before → Grows new later
      → RoutineRepresents g later table (erase.routine (view.routine text))
