use Rattle.std.proofs.Common.{subst, sym}
use Rattle.std.proofs.lemmas.Result.{err_from_is_err_and}
use Rattle.cp_model_machine.specs.InState.{IsIn}
use Rattle.cp_model.specs.Rounds.{run}
use Rattle.cp_model.specs.Start.{start}
use Rattle.cp_execute_start.specs.Starts.{setup_of}
use Rattle.cp_execute_observe.proofs.tracing.trace_machine.Goals as goal

pub returns-clause-state : goal.returns-clause-state
returns-clause-state g c t inputs begun =
    let how = c.args.how.now in
    let setup = setup_of t inputs how.tick.rounds in
    subst (λ m. IsIn m setup (run setup how.plan.turn.steps how.rounds (start setup))) (sym c.halt.ensures)
    (c.in_ok-trace.ensures.state setup (start setup) begun)

pub returns-in_err-trace-clause-fault : goal.returns-in_err-trace-clause-fault
returns-in_err-trace-clause-fault g c =
    let p = err_from_is_err_and c.from_residual.result c.from_residual.ensures.1 in
    rw (p.1, p.2) c.in_err-trace.ensures.fault
