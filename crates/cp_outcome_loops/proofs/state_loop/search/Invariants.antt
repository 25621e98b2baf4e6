use Rattle.cp_rounds.specs.Views.{KeepsText}
use Rattle.cp_outcome_loops.proofs.state_loop.search.Given as goal

abbrev pub invariant-loop-round : goal.invariant-loop-round
invariant-loop-round g l = KeepsText l.fn.machine l.machine
