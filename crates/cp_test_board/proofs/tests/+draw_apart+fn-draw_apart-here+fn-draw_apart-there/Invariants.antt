use Rattle.cp_test_board.proofs.tests.+draw_apart+fn-draw_apart-here+fn-draw_apart-there.Given as goal

abbrev pub decreases-draw_apart : goal.decreases-draw_apart
decreases-draw_apart g l = l.seat.view.allowance

abbrev pub decreases-there : goal.decreases-there
decreases-there g l = l.first.view.allowance

abbrev pub decreases-here : goal.decreases-here
decreases-here g l = l.second.view.allowance
