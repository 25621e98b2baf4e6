use Rattle.cp_private.specs.States.{join}
use Rattle.cp_private.proofs.InUse.{frames_kept, limit_kept}
use Rattle.cp_private.proofs.private.Private.write_frame.Goals as goal

pub returns-clause-step : goal.returns-clause-step
returns-clause-step c =
    let old = c.args.self.now in
    let frames = frames_kept old.frames old.depth c.args.frame c.deref_mut.result.now c.deref_mut.ensures.value in
    let limit = limit_kept old.frames old.depth c.args.frame c.deref_mut.result.now c.deref_mut.ensures.value in
    λ input shared. λ i. record (join old input shared) { frames = frames i; limit = limit i }
