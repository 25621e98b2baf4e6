-- What contracts see of a board and of a seat.
use Rattle.std.specs.Prelude.{◌≡◌}
use Rattle.atomic_table.specs.Seated.{TableId}
use Rattle.cp_board.specs.declared.view.Shape.{Shape}
use Rattle.cp_board.specs.declared.view.View.{View}

-- what contracts see of a board: which board it is, and how its numbers are spread
pub record BoardModel : Type 0 where
  pub table : TableId
  pub shape : Shape

-- what contracts see of a seat: which board it belongs to, and what it knows
pub record SeatModel : Type 0 where
  pub table : TableId
  pub view : View

-- the seat belongs to this board
pub record IsSeatOf (board : BoardModel) (seat : SeatModel) : Type 0 where
  pub table : seat.table ≡ board.table
  pub shape : seat.view.shape ≡ board.shape

-- the seat is as it was, except for the draws and the stripes found used up
pub record ChangesOnlyDraws (old new : SeatModel) : Type 0 where
  pub table : new.table ≡ old.table
  pub shape : new.view.shape ≡ old.view.shape
  pub allowance : new.view.allowance ≡ old.view.allowance
  pub called_stop : new.view.called_stop ≡ old.view.called_stop
  pub seen_stop : new.view.seen_stop ≡ old.view.seen_stop
