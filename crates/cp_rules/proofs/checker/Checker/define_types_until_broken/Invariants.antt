use Rattle.std.proofs.Common.{◌≡◌, drop, map}
use Rattle.cp_model.specs.View as view
use Rattle.cp_rules.specs.Checking.{after}
use Rattle.cp_rules.specs.Definitions.{define_types}
use Rattle.cp_rules.proofs.checker.Checker.define_types_until_broken.Given as goal

-- the rest of the definitions leads to the same end as all of them
abbrev pub invariant-loop-i : goal.invariant-loop-i
invariant-loop-i l =
    let now = l.self in
    let before = l.fn.self in
    after now (define_types now.env (map view.type_definition (drop l.i l.list))) ≡ after before (define_types before.env (map view.type_definition l.fn.list))
