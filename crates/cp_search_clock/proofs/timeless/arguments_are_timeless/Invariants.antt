use Rattle.std.proofs.Common.{◌≡◌, drop, map, true}
use Rattle.cp_law_cores.specs.Clocks.{arguments_are_timeless}
use Rattle.cp_program.specs.View as view
use Rattle.cp_search_clock.proofs.timeless.arguments_are_timeless.Given as goal

abbrev pub invariant-loop-x : goal.invariant-loop-x
invariant-loop-x l =
    arguments_are_timeless (drop l.x-index (map view.argument l.xs)) ≡ true → arguments_are_timeless (map view.argument l.xs) ≡ true
