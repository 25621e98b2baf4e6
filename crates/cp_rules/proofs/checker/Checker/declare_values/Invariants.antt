use Rattle.std.proofs.Common.{◌≡◌, drop}
use Rattle.cp_model.specs.Rules.{values}
use Rattle.cp_model.specs.RulesDeclarations as d
use Rattle.cp_rules.specs.Checking.{after}
use Rattle.cp_rules.proofs.checker.Checker.declare_values.Given as goal

-- the rest of the values leads to the same end as all of them
abbrev pub invariant-loop-i : goal.invariant-loop-i
invariant-loop-i l =
    let now = l.self in
    let before = l.fn.self in
    after now (d.declare_each now.env (values l.t l.i (drop l.i l.names))) ≡ after before (d.declare_each before.env (values l.fn.t 0 l.fn.names))
