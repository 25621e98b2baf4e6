use Rattle.std.proofs.Common.{ap, arith, sym, ◌∙◌}
use Rattle.cp_rounds_still.specs.Stillness.{moves}
use Rattle.cp_rounds_still.proofs.StillStates.{rest_more, report_moving, report_still}
use Rattle.cp_rounds_still.proofs.stillness.is_still.Goals as goal

pub loop-i-init : goal.loop-i-init
loop-i-init c = λ i below. absurd (omega (arith, below))

pub returns-then-can_move : goal.returns-then-can_move
returns-then-can_move c =
    let below = c.loop-i-test.true in
    let count = c.processes-i-end.ensures.count in
    report_moving c.args.machine.now c.loop-i.i (omega (arith, below, count)) (ap moves (sym c.state.ensures.part) ∙ (sym c.can_move.ensures ∙ c.if-can_move.true))

pub loop-i-preserved : goal.loop-i-preserved
loop-i-preserved c =
    rest_more c.args.machine.now c.loop-i.i (ap moves (sym c.state.ensures.part) ∙ (sym c.can_move.ensures ∙ c.if-can_move.false)) c.loop-i.invariant

pub returns : goal.returns
returns c =
    let past = c.loop-i-test.false in
    let count = c.processes-i-end.ensures.count in
    report_still c.args.machine.now c.loop-i.i (omega (arith, past, count)) c.loop-i.invariant
