use Rattle.std.proofs.Common.{◌≡◌, drop}
use Rattle.cp_model.specs.RulesDeclarations as d
use Rattle.cp_rules.specs.Checking.{after}
use Rattle.cp_rules.proofs.checker.Checker.owners_of.Given as goal

-- the rest of the names leads to the same end as all of them
abbrev pub invariant-loop-x : goal.invariant-loop-x
invariant-loop-x l =
    let now = l.self in
    let before = l.fn.self in
    after now (d.owners_of now.env l.y (drop l.x-index l.names)) ≡ after before (d.owners_of before.env l.fn.y l.fn.names)
