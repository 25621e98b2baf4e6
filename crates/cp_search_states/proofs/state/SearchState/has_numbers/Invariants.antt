use Rattle.std.proofs.Common.{◌≡◌, length}
use Rattle.cp_program.specs.View as view
use Rattle.cp_search_states.proofs.Moving.{AreSmallBelow}
use Rattle.cp_search_states.proofs.state.SearchState.has_numbers.Given as goal

abbrev pub invariant-loop-i : goal.invariant-loop-i
invariant-loop-i l = record {
  end : length l.self.privates.items ≡ l.i-end;
  each : AreSmallBelow (view.program l.program) l.self.privates.items l.i;
}
