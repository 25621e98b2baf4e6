use Rattle.std.proofs.Common.{◌≡◌, ◌≤◌, ℕ, List}
use Rattle.cp_program.specs.View as view
use Rattle.cp_law_calls.specs.Ways.{Eager}
use Rattle.cp_law_search.specs.Calls.{way_at}
use Rattle.cp_search_states.specs.SearchStates.{core_of}
use Rattle.cp_search_states.proofs.state.SearchState.first_eager.Given as goal

abbrev pub invariant-loop-i : goal.invariant-loop-i
invariant-loop-i l =
    (inputs : ℕ → List ℕ) (p : ℕ) → 1 ≤ p → p ≤ l.i → way_at (view.program l.program) (core_of inputs l.self) p ≡ Eager → ⊥
