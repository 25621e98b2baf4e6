use Rattle.std.proofs.Common.{◌≡◌, drop}
use Rattle.cp_rules.specs.Checking.{reporting}
use Rattle.cp_rules.specs.Records.{or_first, with_fields}
use Rattle.cp_rules.proofs.checker.Checker.add_fields.Given as goal

-- the rest of the names leads to the same end as all of them
abbrev pub invariant-loop-x : goal.invariant-loop-x
invariant-loop-x l =
    let rest = with_fields l.fields.members l.t (drop l.x-index l.names) in
    let all = with_fields l.fn.fields.members l.fn.t l.fn.names in
    record {
      diagnostics : reporting l.self rest.violations ≡ reporting l.fn.self all.violations;
      members : rest.members ≡ all.members;
      first : or_first l.fields.first rest.violations ≡ or_first l.fn.fields.first all.violations;
    }
