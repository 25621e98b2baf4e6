use Rattle.std.proofs.Common.{◌≡◌, ap, sym, subst}
use Rattle.cp_model_machine.specs.Steps as plain
use Rattle.cp_private.specs.States.{IsStep}
use Rattle.cp_program.specs.View as view
use Rattle.cp_private.proofs.private.Private.evaluate_then.Goals as goal

pub returns-in-SetElement-clause-step : goal.returns-in-SetElement-clause-step
returns-in-SetElement-clause-step c program =
    subst
    (λ x. IsStep c.args.self.now c.args.shared.now c.args.outside.now c.set_element.new.self c.set_element.new.shared c.set_element.result
    (λ w o. plain.act program w o (view.evaluation (view.term c.args.value.now) x)))
    (sym c.in-SetElement.is)
    c.set_element.ensures.step
