use Rattle.std.proofs.Common.{sym, ◌∙◌}
use Rattle.cp_private.proofs.AtRest.{resting_sleeps, resting_steps}
use Rattle.cp_private.proofs.private.Private.is_idle.Goals as goal

pub returns-clause-steps : goal.returns-clause-steps
returns-clause-steps c = λ is. resting_steps c.args.wakes c.args.self.now (sym c.has_no_step.ensures ∙ is)

pub returns-clause-sleeps : goal.returns-clause-sleeps
returns-clause-sleeps c = λ is. resting_sleeps c.args.wakes c.args.self.now (sym c.has_no_step.ensures ∙ is)
