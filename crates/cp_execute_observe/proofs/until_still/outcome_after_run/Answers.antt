use Rattle.std.proofs.lemmas.Result.{IfOk-weaker}
use Rattle.cp_model.specs.View as view
use Rattle.cp_frontend.specs.Inputs.{inputs_of}
use Rattle.cp_execute_observe.specs.Outcomes.{IsOutcome}
use Rattle.cp_execute_observe.proofs.until_still.outcome_after_run.Goals as goal

pub returns-clause-outcome : goal.returns-clause-outcome
returns-clause-outcome g c =
    let t = view.tree c.args.text.now.tree in
    let inputs = inputs_of c.args.inputs.now in
    let begun = c.in_ok-machine.ensures.state t c.in_ok-compiled.ensures.program in
    IfOk-weaker c.outcome_of.result _ (λ o. IsOutcome c.args.how.now c.args.servers.now c.args.form t inputs o.verdict o.bytes.items) (λ o made. made t inputs begun) c.outcome_of.ensures.outcome
