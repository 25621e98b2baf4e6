use Rattle.std.proofs.Common.{ap, ◌∙◌}
use Rattle.cp_model_machine.specs.Calling.{enter}
use Rattle.cp_program.specs.View as view
use Rattle.cp_private.specs.Calls.{back, called_of}
use Rattle.cp_private.proofs.private.Private.enter.Goals as goal

pub returns-clause-step : goal.returns-clause-step
returns-clause-step c =
    λ plans input shared.
    c.enter_kept.ensures.step (back c.args.link) plans input shared c.keep_frame.ensures.frame
    ∙ ap (λ o. enter o (called_of c.args.callee) (view.code_unit plans c.args.unit.now) (view.call c.args.call.now) (back c.args.link))
    (c.keep_frame.ensures.step input shared)
