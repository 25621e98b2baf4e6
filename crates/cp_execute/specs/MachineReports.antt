-- When bytes are the report of a machine, with the chains of askers or without them, and of one that
-- has made the rounds of a run or of an order.
use Rattle.std.specs.Prelude.{Bool, true, false, List}
use Rattle.cp_model.specs.Report.{Text}
use Rattle.cp_model_machine.specs.Machines.{Machine}
use Rattle.cp_model.specs.Rounds.{Event}
use Rattle.cp_base_config.specs.declared.run.Replay.{Replay}
use Rattle.cp_base_config.specs.declared.run.Run.{Run}
use Rattle.cp_report.specs.WholeReports as without
use Rattle.cp_report.specs.WholeReports.{IsReportWithChains}
use Rattle.cp_rounds.specs.InStates.{MakesRounds}
use Rattle.cp_rounds.specs.Views.{KeepsText, machine_of}
use Rattle.cp_rounds.specs.declared.machine.Machine as rounds
use Rattle.cp_compile_symbols.specs.declared.tables.Tables.{Tables}
use Rattle.cp_execute.specs.Replayed.{MakesReplays}

abbrev pub IsReport : Bool → Tables → Machine → Text → Type 0
IsReport false tables m bytes = without.IsReport tables m bytes
IsReport true tables m bytes = IsReportWithChains tables m bytes

abbrev pub ReportsRun : Run → rounds.Machine → rounds.Machine → Text → Type 0
ReportsRun run old new bytes = MakesRounds run.plan.turn.steps run.rounds old new × IsReport run.chains new.tables.now (machine_of new) bytes

abbrev pub ReportsReplay : Replay → List (List Event) → rounds.Machine → rounds.Machine → Text → Type 0
ReportsReplay how orders old new bytes =
    MakesReplays how.turn.steps orders old new × KeepsText old new × IsReport how.chains new.tables.now (machine_of new) bytes
