-- What is reported of a machine.
use Rattle.std.proofs.Common.{◌≡◌, Bool, true, false, sym, subst, ◌∙◌}
use Rattle.std.specs.Borrow.{Bor}
use Rattle.cp_model.specs.Declarations.{globals}
use Rattle.cp_model.specs.Erase as erase
use Rattle.cp_model.specs.Report.{IsReportWithChains, Text}
use Rattle.cp_model.specs.States.{Setup, State}
use Rattle.cp_model.specs.Types.{GlobalScope}
use Rattle.cp_model.specs.View as view
use Rattle.cp_model.specs.declared.tree.Tree as tree
use Rattle.cp_model_machine.specs.Chains.{ReportHasChains}
use Rattle.cp_model_machine.specs.InState.{IsIn, NoneFresh}
use Rattle.cp_model_machine.specs.Machines.{Machine}
use Rattle.cp_model_machine.specs.RoundLaws.{ReportIsReport}
use Rattle.cp_rounds.specs.Views.{KeepsText}
use Rattle.cp_rounds.specs.declared.machine.Machine as rounds
use Rattle.cp_compile_symbols.specs.Texts.{TablesRepresent}
use Rattle.cp_compile_symbols.specs.declared.tables.Tables.{Tables}
use Rattle.cp_execute.specs.Executed.{IsReportOf}
use Rattle.cp_execute.specs.MachineReports.{IsReport}

-- The tables of a text are those that a machine lends, before its rounds and after them.
pub lent : (g : GlobalScope) (text : tree.Tree) (tables : Bor Tables) (old new : rounds.Machine) → TablesRepresent g tables.now text → old.tables ≡ tables → KeepsText old new
    → TablesRepresent g new.tables.now text
lent g text tables old new represent first kept = subst (λ (b : Bor Tables). TablesRepresent g b.now text) (sym (kept.tables ∙ first)) represent

-- What is reported of a machine between rounds is the report of the state that it is in.
pub reported : (chains : Bool) (tables : Tables) (m : Machine) (setup : Setup) (text : tree.Tree) (s : State) (bytes : Text) → ReportIsReport → ReportHasChains
    → IsIn m setup s → NoneFresh s → setup.tree ≡ erase.abstract (view.tree text) → TablesRepresent (globals setup.tree) tables text → IsReport chains tables m bytes
    → IsReportOf chains setup s bytes
reported false tables m setup text s bytes read has I calm same represent is = is setup text same represent ∙ read m setup s I calm
reported true tables m setup text s bytes read has I calm same represent is =
    subst (IsReportWithChains setup s) (sym (is setup text same represent)) (has m setup s I calm).1
