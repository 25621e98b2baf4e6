use Rattle.std.proofs.lemmas.Result.{IfOk-weaker}
use Rattle.cp_search_states.proofs.alone.Lone.step.Goals as goal

pub returns : goal.returns
returns c =
    IfOk-weaker c.is_calm.result _ _
    (λ done calm e. record { step = c.in_ok-make_step.ensures c.if-not-branch.false; calm = calm e })
    c.is_calm.ensures
