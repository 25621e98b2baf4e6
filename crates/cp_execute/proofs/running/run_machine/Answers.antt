use Rattle.std.proofs.Common.{sym}
use Rattle.cp_model.proofs.Results.{from_ok}
use Rattle.cp_execute.proofs.running.run_machine.Goals as goal

pub returns-clause-report : goal.returns-clause-report
returns-clause-report g c =
    let made = from_ok c.run.result (sym c.if-is_err.ensures.value) c.run.ensures.state in
    (made, c.in_ok-report_of.ensures)
