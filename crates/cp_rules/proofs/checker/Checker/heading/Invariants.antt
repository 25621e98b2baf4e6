use Rattle.std.proofs.Common.{◌≡◌, ◌≤◌, drop, map}
use Rattle.cp_model.specs.RulesDeclarations as d
use Rattle.cp_model.specs.View as view
use Rattle.cp_rules.specs.Headings.{collection, nothing, with_heading, with_part}
use Rattle.cp_rules.proofs.checker.Checker.heading.Given as goal

-- the rest of the groups leads to the same end as all of them
abbrev pub invariant-loop-group : goal.invariant-loop-group
invariant-loop-group l =
    let now = l.self in
    let before = l.fn.self in
    let rest = d.heading now.env l.of l.is_function (map view.parameters (drop l.group-index l.groups)) in
    let all = d.heading before.env l.fn.of l.fn.is_function (map view.parameters l.fn.groups) in
    record {
      judged : with_heading now rest ≡ with_heading before all;
      within : l.heading.words ≤ 65537;
      collected : with_part (collection l.heading) rest ≡ with_part nothing all;
    }
