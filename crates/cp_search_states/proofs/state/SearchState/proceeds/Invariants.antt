use Rattle.cp_search_states.proofs.state.SearchState.proceeds.Given as goal

abbrev pub invariant-loop-i : goal.invariant-loop-i
invariant-loop-i l = Unit {0}
