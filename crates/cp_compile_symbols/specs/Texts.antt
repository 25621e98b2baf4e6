-- When the tables of a whole text are right.
use Rattle.std.specs.Prelude.{◌≡◌, ℕ, List, [], Some, slice_get}
use Rattle.std.specs.Borrow.{Bor}
use Rattle.cp_model.specs.Types.{GlobalScope}
use Rattle.cp_model.specs.declared.tree.System.{System}
use Rattle.cp_model.specs.declared.tree.Tree as tree
use Rattle.cp_compile_symbols.specs.declared.layout.Layout.{Layout}
use Rattle.cp_compile_symbols.specs.declared.names.Names.{Names}
use Rattle.cp_compile_symbols.specs.declared.systems.SystemTable.{SystemTable}
use Rattle.cp_compile_symbols.specs.declared.tables.Tables.{Tables}
use Rattle.cp_compile_symbols.specs.declared.types.Types.{Types}
use Rattle.cp_compile_symbols.specs.Layouts.{AreLaid, EachIsLaid}
use Rattle.cp_compile_symbols.specs.Routines.{Builds}
use Rattle.cp_compile_symbols.specs.Representing.{Grows, ScopeRepresents, system_at}
use Rattle.cp_compile_symbols.specs.Systems.{SystemRepresents}

-- The table is that of the system type `y`.
abbrev pub TableIs : GlobalScope → Types → SystemTable → System → Type 0
TableIs g types table y = SystemRepresents g types table y.parameters.items y.variables.items y.routines.items

-- Each system type has a table, which has its number.
abbrev pub AreSystems : GlobalScope → Types → List SystemTable → Type 0
AreSystems g types tables =
    (k : ℕ) (y : Bor System) → system_at types k ≡ Some y → (table : SystemTable) × (slice_get tables k ≡ Some table) × TableIs g types table y.now

pub record MakesSystems (names : Names) (old new : Types) (before after : List Layout) (tables : List SystemTable) : Type 0 where
  pub builds : Builds names old new before after
  pub represents : (g : GlobalScope) (later : Types) → ScopeRepresents names old g → AreLaid g old before → Grows new later → AreSystems g later tables

-- The tables are those of a text with the outermost scope `g`. The initial process has no
-- parameters.
pub record TablesRepresent (g : GlobalScope) (tables : Tables) (text : tree.Tree) : Type 0 where
  pub scope : ScopeRepresents tables.names tables.types g
  pub laid : EachIsLaid g tables.types tables.layouts.rows.items
  pub systems : AreSystems g tables.types tables.systems.items
  pub initial : SystemRepresents g tables.types tables.initial [] text.variables.items text.routines.items
