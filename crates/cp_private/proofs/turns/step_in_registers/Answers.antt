use Rattle.std.proofs.Common.{◌≡◌, Some, ap, sym, ◌∙◌}
use Rattle.cp_model_machine.specs.Steps.{act_on, operation_of}
use Rattle.cp_program.specs.View as view
use Rattle.cp_private.specs.States.{join}
use Rattle.cp_private.proofs.turns.step_in_registers.Goals as goal

pub returns-in-Some-clause-step : goal.returns-in-Some-clause-step
returns-in-Some-clause-step c =
    λ w input.
    let program = view.program c.args.program.now in
    let o = join c.args.private.now input c.args.shared.now in
    let there : operation_of program o ≡ Some (view.operation c.operation_at-operation.result.now) = c.operation_at-operation.ensures in
    c.in-Some.ensures.step w input
    ∙ sym (ap (act_on program w o) there ∙ ap (λ x. act_on program w o (Some (view.operation x))) c.in-Return.is)
