use Rattle.cp_program.specs.View as view
use Rattle.cp_law_exploring.specs.Exploring.{count}
use Rattle.cp_search.proofs.Searched.{AreFineBelow}
use Rattle.cp_search.proofs.space.are_fine.Given as goal

abbrev pub invariant-loop-i : goal.invariant-loop-i
invariant-loop-i l = AreFineBelow l.servers (count (view.program l.program)) l.store l.i
