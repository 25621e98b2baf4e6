use Rattle.std.proofs.Common.{refl, sym}
use Rattle.cp_law_cores.specs.Clocks.{are_timeless, operation_is_timeless}
use Rattle.cp_program.specs.View as view
use Rattle.cp_search_clock.proofs.Whole.{left_more, left_none, more_operations}
use Rattle.cp_search_clock.proofs.timeless.is_timeless.Goals as goal

pub returns-in_default : goal.returns-in_default
returns-in_default c = λ e.
    let all = (view.program c.args.program.now).operations in
    c.loop-place.invariant (left_none operation_is_timeless are_timeless refl more_operations all c.loop-place.place (sym c.in_default.ensures))

pub loop-place-preserved : goal.loop-place-preserved
loop-place-preserved c =
    let all = (view.program c.args.program.now).operations in
    let x = view.operation c.in-Some.operation.now in
    left_more operation_is_timeless are_timeless refl more_operations all c.loop-place.place x (sym c.in-Some.ensures)
    (c.operation_is_timeless.ensures c.if-not-operation_is_timeless.false) c.loop-place.invariant
