use Rattle.std.proofs.Common.{◌≡◌, ◌<◌, ◌≤◌, ℕ, true}
use Rattle.cp_board.specs.Models.{ChangesOnlyDraws}
use Rattle.cp_board.specs.Views.{is_used_up, KeepsMarks}
use Rattle.cp_board.proofs.board.Board.claim.Given as goal

abbrev pub invariant-loop-stripe : goal.invariant-loop-stripe
invariant-loop-stripe l = record {
  rest : ChangesOnlyDraws l.initial.seat l.seat;
  draws : l.seat.view.draws ≡ l.initial.seat.view.draws;
  marked : (j : ℕ) → l.own ≤ j → j < l.stripe → is_used_up l.seat.view j ≡ true;
  kept : KeepsMarks l.initial.seat.view l.seat.view;
}

abbrev pub invariant-loop-stripe-2 : goal.invariant-loop-stripe-2
invariant-loop-stripe-2 l = record {
  rest : ChangesOnlyDraws l.initial.seat l.seat;
  draws : l.seat.view.draws ≡ l.initial.seat.view.draws;
  marked : (j : ℕ) → j < l.stripe → is_used_up l.seat.view j ≡ true;
  kept : KeepsMarks l.initial.seat.view l.seat.view;
}
