use Rattle.std.proofs.Common.{◌≤◌}
use Rattle.cp_program.specs.View as view
use Rattle.cp_law_exploring.specs.Exploring.{AreExpanded, Grows}
use Rattle.cp_search_states.specs.SearchStates.{input_of}
use Rattle.cp_search_store.specs.States.{cores_of, state_count}
use Rattle.cp_search.specs.SearchResults.{IsReady}
use Rattle.cp_search.specs.Batches.{AreFound}
use Rattle.cp_search.proofs.search.explore.Given as goal

abbrev pub invariant-loop-i : goal.invariant-loop-i
invariant-loop-i g l = record {
  grows : Grows (cores_of (input_of l.inputs) l.fn.space.store) (cores_of (input_of l.inputs) l.space.store);
  ready : IsReady (view.program l.program) (input_of l.inputs) l.space.store l.space.moves.moves.items;
  found : AreFound (view.program l.program) (input_of l.inputs) l.space.store l.batch.found.items;
  within : l.i ≤ state_count l.space.store;
  expanded : AreExpanded (view.program l.program) (cores_of (input_of l.inputs) l.space.store) l.i;
}
