use Rattle.cp_private.proofs.private.Private.pass_any.Goals as goal

pub returns-in-Value-clause-step : goal.returns-in-Value-clause-step
returns-in-Value-clause-step c =
    λ own. rw c.in-Value.is (c.pass_value.ensures.step own)

pub returns-in-Copy-clause-step : goal.returns-in-Copy-clause-step
returns-in-Copy-clause-step c = λ own. rw c.in-Copy.is (c.pass_copy.ensures.step own)

pub returns-in-Reference-clause-step : goal.returns-in-Reference-clause-step
returns-in-Reference-clause-step c = λ own. rw c.in-Reference.is (c.pass_reference.ensures.step own)
