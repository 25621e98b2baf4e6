use Rattle.std.proofs.Common.{◌≡◌, map, ap, ◌∙◌, arith}
use Rattle.cp_private.specs.States as states
use Rattle.cp_private.specs.declared.kernel_view.Gate.{Gate}
use Rattle.cp_kernel.proofs.Copies.{all_copied, copied_more}
use Rattle.cp_kernel.proofs.copying.copy_gates.Goals as goal

pub loop-gate-preserved : goal.loop-gate-preserved
loop-gate-preserved c =
    let x = c.gate-item.result in
    let y : Gate = record { holder = x.holder; askers = c.in_ok-askers.askers } in
    let same : states.gate y ≡ states.gate x =
    λ i. record { holder = states.holder x.holder; askers = (c.in_ok-askers.ensures.items ∙ c.deref.ensures.value) i } in
    ap (map states.gate) c.in_ok-push.ensures.items
    ∙ copied_more states.gate c.args.gates.now c.loop-gate.all.items c.loop-gate.gate-index x y c.loop-gate-test.true c.gate-item.is same c.loop-gate.invariant

pub returns : goal.returns
returns c =
    let past = c.loop-gate-test.false in
    let bound = c.loop-gate.auto.gate-index-end in
    c.loop-gate.invariant ∙ all_copied states.gate c.args.gates.now c.loop-gate.gate-index (omega (arith, past, bound))
