use Rattle.std.proofs.Common.{◌≡◌, ◌-◌, length}
use Rattle.cp_board.specs.Models.{IsSeatOf}
use Rattle.cp_rounds_workers.proofs.work.draw_all.Given as goal

abbrev pub invariant-draw : goal.invariant-draw
invariant-draw g l = record {
  of : IsSeatOf l.board l.seat;
  allowance : l.seat.view.allowance ≡ l.fn.seat.view.allowance;
}

abbrev pub decreases-draw : goal.decreases-draw
decreases-draw g l = l.board.shape.numbers - length l.seat.view.draws
