use Rattle.cp_model_machine.proofs.MachineStarts.{run_is_reported}
use Rattle.cp_model_machine.proofs.Reporting.{report_is_report}
use Rattle.cp_model_machine.proofs.law.reports.Goals as goal

pub returns : goal.returns
returns c = record {
  read = report_is_report;
  run = run_is_reported;
}
