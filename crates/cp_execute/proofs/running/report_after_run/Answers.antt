use Rattle.cp_model.proofs.Results.{if_ok}
use Rattle.cp_execute.proofs.running.report_after_run.Goals as goal

pub returns-clause-report : goal.returns-clause-report
returns-clause-report g c =
    let text = c.in_ok-program.ensures in
    if_ok c.run_program.result (λ bytes due. due c.args.accepted.now.tree text.program (rw c.deref.ensures text.tables)) c.run_program.ensures.report
