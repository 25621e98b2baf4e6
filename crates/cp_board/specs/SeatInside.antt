-- How the fields of a `Seat` relate to its view.
use Rattle.std.specs.Prelude.{◌≡◌, ◌<◌, ◌≤◌, [], length}
use Rattle.cp_board.specs.Draws.{IsSound}
use Rattle.cp_board.specs.Models.{SeatModel}
use Rattle.cp_board.specs.declared.seat.Seat.TheInside as seat
use Rattle.cp_board.specs.declared.view.TheConstants.{FULL_ALLOWANCE}

abbrev pub seat_model : seat.Inside → SeatModel
seat_model s = record { table = s.pass.table_id; view = s.pass.me.0 }

-- the allowance, the count and the marks are those of the view, and its draws are sound
pub record IsValidSeat (s : seat.Inside) : Type 0 where
  pub slots : s.pass.me.1 ≡ []
  pub allowance : s.allowance ≡ s.pass.me.0.allowance
  pub some : 0 < s.allowance
  pub most : s.allowance ≤ FULL_ALLOWANCE
  pub count : s.count ≡ length s.pass.me.0.draws
  pub used_up : s.used_up ≡ s.pass.me.0.used_up
  pub seen_stop : s.seen_stop ≡ s.pass.me.0.seen_stop
  pub stripe : s.stripe < s.pass.me.0.shape.stripes
  pub sound : IsSound s.pass.me.0.shape.numbers s.pass.me.0.draws
  pub few : length s.pass.me.0.draws ≤ s.pass.me.0.shape.numbers
