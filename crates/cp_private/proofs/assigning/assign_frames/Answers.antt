use Rattle.std.proofs.Common.{◌+◌, ◌<◌, ap, length, slice_set, ◌∙◌, arith}
use Rattle.cp_private.specs.States.{frames_in}
use Rattle.cp_private.proofs.Assigned.{frames_assigned}
use Rattle.cp_private.proofs.assigning.assign_frames.Goals as goal

pub loop-i-preserved : goal.loop-i-preserved
loop-i-preserved c =
    let i = c.loop-i.i in
    let fs = c.loop-i.frames in
    let gs = c.args.others.now in
    let d = c.index-others-i.result in
    let below : i < length fs = omega (arith, c.loop-i-test.true, c.loop-i.auto.frames, c.requires.frames) in
    let there : i < length gs = omega (arith, c.loop-i-test.true, c.requires.others) in
    ap (λ g. frames_in (i + 1) (slice_set fs i g)) c.index-others-i.is ∙ frames_assigned i fs gs d below there c.loop-i.invariant
