use Rattle.std.proofs.Common.{All}
use Rattle.cp_program.specs.View as view
use Rattle.cp_search_states.specs.SearchStates.{input_of}
use Rattle.cp_search.specs.Batches.{IsStep}
use Rattle.cp_search.proofs.scout.look_at.Given as goal

abbrev pub invariant-loop-i : goal.invariant-loop-i
invariant-loop-i l = All (IsStep (view.program l.program) (input_of l.inputs) l.space.store) l.scout.found.items
