use Rattle.std.proofs.Common.{◌≡◌, drop, map}
use Rattle.cp_model.specs.RulesDeclarations as d
use Rattle.cp_rules.specs.Headings.{lent}
use Rattle.cp_rules.proofs.checker.Checker.add_each.Given as goal

-- the rest of the names leads to the same end as all of them
abbrev pub invariant-loop-x : goal.invariant-loop-x
invariant-loop-x l =
    let now = l.self in
    let before = l.fn.self in
    record {
      env : (d.declare_each now.env (map lent (drop l.x-index l.names))).env ≡ (d.declare_each before.env (map lent l.fn.names)).env;
      diagnostics : now.diagnostics ≡ before.diagnostics;
    }
