use Rattle.std.proofs.Common.{◌≡◌, ◌≤◌, ◌+◌, drop, map}
use Rattle.cp_model.specs.RulesDeclarations as d
use Rattle.cp_model.specs.RulesTypes.{cap_words}
use Rattle.cp_model.specs.View as view
use Rattle.cp_rules.specs.Declaring.{with_variables}
use Rattle.cp_rules.proofs.checker.Checker.variables.Given as goal

-- the rest of the groups leads to the same end as all of them
abbrev pub invariant-loop-group : goal.invariant-loop-group
invariant-loop-group l =
    let now = l.self in
    let before = l.fn.self in
    let rest = d.variables now.env l.position (map view.variables (drop l.group-index l.groups)) in
    let all = d.variables before.env l.fn.position (map view.variables l.fn.groups) in
    record {
      declared : with_variables now rest ≡ with_variables before all;
      within : l.words ≤ 65537;
      words : cap_words (l.words + rest.words) ≡ cap_words all.words;
    }
