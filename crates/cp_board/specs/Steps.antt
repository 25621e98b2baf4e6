-- What a seat learns from each kind of atomic step that it makes. A step changes only the view of
-- that seat.
use Rattle.std.specs.Prelude.{◌≡◌, ◌≢◌, ℕ, ◌+◌, ◌<◌, ◌≤◌, false, length}
use Rattle.atomic_table.specs.Table.{Me, Step}
use Rattle.cp_board.specs.declared.view.View.{View}
use Rattle.cp_board.specs.declared.view.TheConstants.{FULL_ALLOWANCE}
use Rattle.cp_board.specs.Draws.{IsSound}
use Rattle.cp_board.specs.Stripes.{number_of, stripe_at}
use Rattle.cp_board.specs.Views.{with_draw, with_used_up, with_seen_stop, with_called_stop}

-- a seat's view with the slots that it holds, of which a board has none
abbrev pub SeatState : Type 0
SeatState = Me (Unit {0}) View

-- `fetch_add` of 1 on the word of a stripe: its next ticket was drawn, or the stripe was found used
-- up
pub record DrawsTicket (step : Step (Unit {0})) (old : SeatState) (ticket : ℕ) (new : SeatState) : Type 0 where
  pub small : ticket ≤ old.0.shape.numbers + FULL_ALLOWANCE
  pub slots : new.1 ≡ old.1
  pub drawn : number_of old.0.shape (stripe_at step.word) ticket < old.0.shape.numbers → new.0 ≡ with_draw old.0 (number_of old.0.shape (stripe_at step.word) ticket)
  pub used_up : old.0.shape.numbers ≤ number_of old.0.shape (stripe_at step.word) ticket → new.0 ≡ with_used_up old.0 (stripe_at step.word)
  pub sound : IsSound old.0.shape.numbers new.0.draws
  pub few : length new.0.draws ≤ old.0.shape.numbers

-- a load of the stop word: whether a stop was called
pub record ReadsStop (step : Step (Unit {0})) (old : SeatState) (stop : ℕ) (new : SeatState) : Type 0 where
  pub slots : new.1 ≡ old.1
  pub clear : stop ≡ 0 → (new.0 ≡ old.0) × (old.0.seen_stop ≡ false)
  pub set : stop ≢ 0 → new.0 ≡ with_seen_stop old.0

-- `fetch_or` of 1 on the stop word: the stop was called
pub record CallsStop (step : Step (Unit {0})) (old : SeatState) (stop : ℕ) (new : SeatState) : Type 0 where
  pub slots : new.1 ≡ old.1
  pub view : new.0 ≡ with_called_stop old.0

-- a load of the stop word after a join: the view stays the same, and its draws are known to be
-- sound
pub record LearnsDraws (step : Step (Unit {0})) (old : SeatState) (stop : ℕ) (new : SeatState) : Type 0 where
  pub same : new ≡ old
  pub allowance : old.0.allowance ≤ FULL_ALLOWANCE
  pub sound : IsSound old.0.shape.numbers old.0.draws
  pub few : length old.0.draws ≤ old.0.shape.numbers
