use Rattle.std.proofs.Common.{◌≡◌, drop, map}
use Rattle.cp_model.specs.RulesDeclarations as d
use Rattle.cp_model.specs.View as view
use Rattle.cp_rules.specs.Checking.{after}
use Rattle.cp_rules.proofs.checker.Checker.routines.Given as goal

-- the rest of the routines leads to the same end as all of them
abbrev pub invariant-loop-routine : goal.invariant-loop-routine
invariant-loop-routine l =
    let now = l.self in
    let before = l.fn.self in
    after now (d.routines now.env l.sort (map view.routine (drop l.routine-index l.list))) ≡ after before (d.routines before.env l.fn.sort (map view.routine l.fn.list))
