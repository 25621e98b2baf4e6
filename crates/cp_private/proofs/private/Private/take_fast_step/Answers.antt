use Rattle.std.proofs.Common.{ap, sym, ◌∙◌}
use Rattle.cp_model_machine.specs.Steps.{act}
use Rattle.cp_program.specs.View as view
use Rattle.cp_private.specs.States.{join}
use Rattle.cp_private.proofs.private.Private.take_fast_step.Goals as goal

pub returns-in-Evaluate-clause-step : goal.returns-in-Evaluate-clause-step
returns-in-Evaluate-clause-step g c =
    λ yes program w input.
    c.evaluate_fast.ensures.step (c.fast_path_of.ensures.made yes) program w input
    ∙ sym (ap (λ x. act program w (join c.args.self.now input c.args.shared.now) (view.operation x)) c.in-Evaluate.is)

pub returns-in-ForNext-clause-step : goal.returns-in-ForNext-clause-step
returns-in-ForNext-clause-step g c =
    λ yes program w input.
    c.count_fast.ensures.step (c.fast_path_of-in-ForNext.ensures.made yes) w input
    ∙ sym (ap (λ x. act program w (join c.args.self.now input c.args.shared.now) (view.operation x)) c.in-ForNext.is)

pub returns-in-CopyWords-clause-step : goal.returns-in-CopyWords-clause-step
returns-in-CopyWords-clause-step g c =
    λ yes program w input.
    c.copy_fast.ensures.step (c.fast_path_of-in-CopyWords.ensures.made yes) w input
    ∙ sym (ap (λ x. act program w (join c.args.self.now input c.args.shared.now) (view.operation x)) c.in-CopyWords.is)
