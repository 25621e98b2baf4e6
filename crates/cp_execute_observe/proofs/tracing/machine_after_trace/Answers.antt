use Rattle.std.proofs.lemmas.Result.{IfOk-weaker}
use Rattle.cp_model.specs.View as view
use Rattle.cp_frontend.specs.Inputs.{inputs_of}
use Rattle.cp_execute_observe.specs.Traces.{IsTraced}
use Rattle.cp_execute_observe.proofs.tracing.machine_after_trace.Goals as goal

pub returns-clause-state : goal.returns-clause-state
returns-clause-state g c =
    let t = view.tree c.args.accepted.now.tree in
    let inputs = inputs_of c.args.inputs.now in
    let begun = c.in_ok-machine.ensures.state t c.in_ok-compiled.ensures.program in
    IfOk-weaker c.trace_machine.result _ (λ m. IsTraced c.args.how.now t inputs m) (λ m traced. traced t inputs begun) c.trace_machine.ensures.state
