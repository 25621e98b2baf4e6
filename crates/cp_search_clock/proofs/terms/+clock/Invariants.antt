use Rattle.std.proofs.Common.{◌≡◌, drop, map, true}
use Rattle.cp_program.specs.View as view
use Rattle.cp_search_clock.specs.Chains.{applications_are_timeless, indices_are_timeless}
use Rattle.cp_search_clock.proofs.terms.+clock.Given as goal

abbrev pub invariant-chain_is_timeless-loop-x : goal.invariant-chain_is_timeless-loop-x
invariant-chain_is_timeless-loop-x l =
    applications_are_timeless (drop l.x-index (map view.application l.rest)) ≡ true → applications_are_timeless (map view.application l.rest) ≡ true

abbrev pub invariant-path_is_timeless-loop-i : goal.invariant-path_is_timeless-loop-i
invariant-path_is_timeless-loop-i l =
    indices_are_timeless (drop l.i-index (map view.index l.indices)) ≡ true → indices_are_timeless (map view.index l.indices) ≡ true
