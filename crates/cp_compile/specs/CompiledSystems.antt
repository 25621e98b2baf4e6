-- When the units of a system type are compiled with the right tables.
use Rattle.std.specs.Prelude.{◌≡◌, ℕ, List}
use Rattle.cp_model.specs.Abstract.{Name, System}
use Rattle.cp_model.specs.Names.{lookup}
use Rattle.cp_model.specs.Types.{GlobalScope}
use Rattle.cp_model.specs.declared.tree.Fields.{Fields}
use Rattle.cp_model.specs.declared.tree.Parameters.{Parameters}
use Rattle.cp_model.specs.declared.tree.Routine as tree
use Rattle.cp_model_program.specs.Compile.{Compiled}
use Rattle.cp_compile_emit.specs.declared.emitter.Emitter.{Emitter}
use Rattle.cp_compile_emit.specs.Planning.{Knows, known_of}
use Rattle.cp_compile_symbols.specs.Layouts.{EachIsLaid}
use Rattle.cp_compile_symbols.specs.Scopes.{IsWritten}
use Rattle.cp_compile_symbols.specs.Representing.{ScopeRepresents}
use Rattle.cp_compile_symbols.specs.Systems.{SystemRepresents}
use Rattle.cp_compile_symbols.specs.Texts.{AreSystems}
use Rattle.cp_compile.specs.Compiles.{IsCompiled}
use Rattle.cp_compile.specs.declared.system.SystemCompiler.{SystemCompiler}

-- The tables represent the text with the outermost scope `g`, and for the system type `s`.
pub record IsSystem (of : SystemCompiler) (g : GlobalScope) (s : System) (firsts : List (Name × ℕ)) : Type 0 where
  pub parameters : List Parameters
  pub variables : List Fields
  pub routines : List tree.Routine
  pub written : IsWritten s parameters variables routines
  pub names : ScopeRepresents of.tables.now.names of.tables.now.types g
  pub laid : EachIsLaid g of.tables.now.types of.tables.now.layouts.rows.items
  pub systems : AreSystems g of.tables.now.types of.tables.now.systems.items
  pub system : SystemRepresents g of.tables.now.types of.system.now parameters variables routines
  pub planned : of.planner.now.tables.now ≡ of.tables.now
  pub knows : Knows of.planner.now g
  pub firsts_are : (x : Name) → lookup x of.firsts.now ≡ lookup x firsts

-- The compiler makes of an emitter that holds `before` one that holds `after`.
abbrev pub Makes : SystemCompiler → Emitter → Emitter → Compiled → Compiled → Type 0
Makes of old new before after =
    IsCompiled (known_of of.planner.now) old before → IsCompiled (known_of of.planner.now) new after
