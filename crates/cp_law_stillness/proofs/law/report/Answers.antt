use Rattle.cp_law_stillness.proofs.Reports.{report_of_count}
use Rattle.cp_law_stillness.proofs.law.report.Goals as goal

pub returns : goal.returns
returns c = report_of_count
