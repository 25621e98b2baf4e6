use Rattle.cp_board.specs.Models.{IsSeatOf}
use Rattle.cp_board.specs.Views.{IsDone}
use Rattle.cp_rounds_workers.proofs.wave.collect.Given as goal

abbrev pub invariant-loop : goal.invariant-loop
invariant-loop g l =
    ((goal.iterator-loop g).can_next l.iterator' × (goal.iterator-loop g).is_finite l.iterator')
    × (IsSeatOf l.board l.seat × IsDone l.seat.view)
