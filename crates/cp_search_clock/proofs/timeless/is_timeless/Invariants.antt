use Rattle.std.proofs.Common.{◌≡◌, drop, true}
use Rattle.cp_law_cores.specs.Clocks.{are_timeless}
use Rattle.cp_program.specs.View as view
use Rattle.cp_search_clock.proofs.timeless.is_timeless.Given as goal

abbrev pub invariant-loop-place : goal.invariant-loop-place
invariant-loop-place l =
    are_timeless (drop l.place (view.program l.program).operations) ≡ true → are_timeless (view.program l.program).operations ≡ true
