-- When plans are those of the components of system types.
use Rattle.std.specs.Prelude.{◌≡◌, ◌+◌, Bool, true, ℕ, List, Some, is_some, slice_get}
use Rattle.std.specs.Borrow.{Bor}
use Rattle.cp_model.specs.Erase as erase
use Rattle.cp_model.specs.Types.{GlobalScope}
use Rattle.cp_model.specs.View as tree_view
use Rattle.cp_model.specs.declared.tree.System.{System}
use Rattle.cp_model_program.specs.Plans.{plan_of_component}
use Rattle.cp_model_program.specs.Programs as code
use Rattle.cp_compile_symbols.specs.declared.systems.SystemTable.{SystemTable}
use Rattle.cp_compile_symbols.specs.declared.tables.Tables.{Tables}
use Rattle.cp_compile_symbols.specs.Representing.{system_at}
use Rattle.cp_program.specs.View.{plan_at}

-- A component has room.
abbrev pub table_fits : SystemTable → Bool
table_fits t = is_some t.members.words

-- From number `first` on, the plans are those of the components of the system types that have
-- tables, by their numbers, and that have room.
abbrev pub ArePlans : GlobalScope → Tables → List code.StartPlan → ℕ → Type 0
ArePlans g tables known first =
    (k : ℕ) (y : Bor System) (t : SystemTable) → system_at tables.types k ≡ Some y → slice_get tables.systems.items k ≡ Some t → table_fits t ≡ true
    → plan_at known (first + k) ≡ plan_of_component g (erase.system (tree_view.system y.now))
