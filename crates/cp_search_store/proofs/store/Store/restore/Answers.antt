use Rattle.std.proofs.lemmas.Result.{IfOk-weaker}
use Rattle.cp_search_store.proofs.store.Store.restore.Goals as goal

pub returns : goal.returns
returns c =
    IfOk-weaker c.restore_kernel.result _ _
    (λ done same e inputs.
    let kernel = same e in
    let parts = c.restore_parts.ensures c.if-not-restore_parts.false inputs in
    λ j. record { kernel = kernel j; parts = parts j })
    c.restore_kernel.ensures
