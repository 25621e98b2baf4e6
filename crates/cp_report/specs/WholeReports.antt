-- When bytes are the report of a machine.
use Rattle.std.specs.Prelude.{◌≡◌}
use Rattle.cp_model.specs.Declarations.{globals}
use Rattle.cp_model.specs.Erase as erase
use Rattle.cp_model.specs.Report.{Text}
use Rattle.cp_model.specs.States.{Setup}
use Rattle.cp_model.specs.View as view
use Rattle.cp_model.specs.declared.tree.Tree as tree
use Rattle.cp_model_machine.specs.Chains.{report_with_chains}
use Rattle.cp_model_machine.specs.Machines as plain
use Rattle.cp_model_machine.specs.Reports.{machine_report}
use Rattle.cp_compile_symbols.specs.Texts.{TablesRepresent}
use Rattle.cp_compile_symbols.specs.declared.tables.Tables.{Tables}

-- The bytes are the report that is read off the machine, for a text that has these tables.
abbrev pub IsReport : Tables → plain.Machine → Text → Type 0
IsReport tables m bytes =
    (setup : Setup) (text : tree.Tree) → setup.tree ≡ erase.abstract (view.tree text) → TablesRepresent (globals setup.tree) tables text
    → bytes ≡ machine_report setup m

-- The bytes are that report, with the lines of chains after it.
abbrev pub IsReportWithChains : Tables → plain.Machine → Text → Type 0
IsReportWithChains tables m bytes =
    (setup : Setup) (text : tree.Tree) → setup.tree ≡ erase.abstract (view.tree text) → TablesRepresent (globals setup.tree) tables text
    → bytes ≡ report_with_chains setup m
