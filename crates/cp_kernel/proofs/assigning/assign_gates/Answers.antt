use Rattle.std.proofs.Common.{length, ap, ◌<◌, ◌∙◌, arith}
use Rattle.cp_private.specs.States as states
use Rattle.cp_kernel.proofs.Assigned.{assigned_more}
use Rattle.cp_kernel.proofs.assigning.assign_gates.Goals as goal

pub loop-i-preserved : goal.loop-i-preserved
loop-i-preserved c =
    let i = c.loop-i.i in
    let d = c.index-others-i.result in
    let below : i < length c.loop-i.gates = omega (arith, c.loop-i-test.true, c.loop-i.auto.gates) in
    let there : i < length c.args.others.now = omega (arith, c.loop-i-test.true, c.requires) in
    assigned_more states.gate c.loop-i.gates c.args.others.now i c.assign_gate.new.gate d below there
    (c.in_ok-assign_gate.ensures ∙ ap states.gate c.index-others-i.is) c.loop-i.invariant
