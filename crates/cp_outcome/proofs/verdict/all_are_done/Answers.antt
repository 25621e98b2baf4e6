use Rattle.std.proofs.Common.{rules, ◌≡◌, ◌+◌, false, true, ap, arith, sym, ◌∙◌}
use Rattle.cp_outcome.specs.Verdicts.{done}
use Rattle.cp_outcome.proofs.Testing.{each_done, one_more, one_undone}
use Rattle.cp_outcome.proofs.verdict.all_are_done.Goals as goal

pub loop-i-init : goal.loop-i-init
loop-i-init c = λ i below. absurd (omega (arith, below))

pub returns-then-not-is_done : goal.returns-then-not-is_done
returns-then-not-is_done c =
    let below = c.loop-i-test.true in
    let count = c.processes-i-end.ensures.count in
    let tested : c.is_done.result ≡ false = search rules in
    one_undone c.args.servers.now c.args.machine.now c.loop-i.i (omega (arith, below, count))
    (ap (done c.args.servers.now (c.loop-i.i + 1)) (sym c.state.ensures.part) ∙ (sym c.is_done.ensures ∙ tested))

pub loop-i-preserved : goal.loop-i-preserved
loop-i-preserved c =
    let tested : c.is_done.result ≡ true = search rules in
    one_more (done c.args.servers.now) c.args.machine.now c.loop-i.i
    (ap (done c.args.servers.now (c.loop-i.i + 1)) (sym c.state.ensures.part) ∙ (sym c.is_done.ensures ∙ tested)) c.loop-i.invariant

pub returns : goal.returns
returns c =
    let past = c.loop-i-test.false in
    let count = c.processes-i-end.ensures.count in
    each_done c.args.servers.now c.args.machine.now c.loop-i.i (omega (arith, past, count)) c.loop-i.invariant
