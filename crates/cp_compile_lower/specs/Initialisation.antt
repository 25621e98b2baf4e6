-- When a table is that of the system type of a component that is initialised.
use Rattle.std.specs.Prelude.{◌≡◌, ℕ, []}
use Rattle.cp_model.specs.Abstract as a
use Rattle.cp_model.specs.Erase as erase
use Rattle.cp_model.specs.Types.{GlobalScope}
use Rattle.cp_model.specs.View as view
use Rattle.cp_model.specs.declared.tree.System.{System}
use Rattle.cp_model_program.specs.CodedTerms.{CodedArgument, target_named}
use Rattle.cp_model_program.specs.Scopes as code
use Rattle.cp_model_program.specs.Scopes.{environment}
use Rattle.cp_model_program.specs.Terms as plain
use Rattle.cp_compile_symbols.specs.declared.systems.SystemTable.{SystemTable}
use Rattle.cp_compile_symbols.specs.declared.types.Types.{Types}
use Rattle.cp_compile_symbols.specs.Systems.{SystemRepresents}

pub record IsTable (g : GlobalScope) (types : Types) (table : SystemTable) (y : a.System) : Type 0 where
  pub text : System
  pub represents : SystemRepresents g types table text.parameters.items text.variables.items text.routines.items
  pub is : erase.system (view.system text) ≡ y

-- A right to the component that an argument names, which needs no calls.
abbrev pub right_argument : code.Scope → ℕ → ℕ → a.Expression → CodedArgument
right_argument s at low e =
    record { argument = plain.Right at (target_named (environment s) e); calls = []; temps = low }
