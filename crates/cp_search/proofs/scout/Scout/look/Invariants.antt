use Rattle.std.proofs.Common.{All}
use Rattle.cp_program.specs.View as view
use Rattle.cp_search_states.specs.SearchStates.{input_of}
use Rattle.cp_search.specs.Batches.{IsStep}
use Rattle.cp_search.proofs.scout.Scout.look.Given as goal

abbrev pub invariant-loop-k : goal.invariant-loop-k
invariant-loop-k l =
    All (IsStep (view.program l.program) (input_of l.inputs) l.space.store) l.fn.self.found.items
    → All (IsStep (view.program l.program) (input_of l.inputs) l.space.store) l.self.found.items
