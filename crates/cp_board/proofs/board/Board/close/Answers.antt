use Rattle.std.proofs.Common.{◌<◌, ℕ, subst, ap, ◌∙◌}
use Rattle.cp_board.specs.declared.view.Shape.{Shape}
use Rattle.cp_board.proofs.Closing.{KnowsAll, closed}
use Rattle.cp_board.proofs.board.Board.close.Goals as goal

knows : (c : goal.After-free) → KnowsAll c.args.self.shape c.args.seat.view
knows c =
    let board = ap (λ b. b.shape) c.self.view_is in
    let seat = ap (λ s. s.view) c.seat.view_is in
    let some_stripe = subst (λ (q : Shape). 0 < q.stripes) board c.self.invariant.some in
    closed _ _ _ _ _ _ _ c.close_with.ensures.values.2 (c.self.invariant.key ∙ board) seat some_stripe c.requires.whole c.requires.of.shape

pub returns-clause-done : goal.returns-clause-done
returns-clause-done c = (knows c).whole

pub returns-clause-all : goal.returns-clause-all
returns-clause-all c done = c.seat.invariant.count ∙ (ap (λ s. Rattle.std.proofs.Common.length s.view.draws) c.seat.view_is ∙ (knows c).count done)

pub returns-clause-stop : goal.returns-clause-stop
returns-clause-stop c = (knows c).called
