use Rattle.std.proofs.Common.{◌≡◌, ◌++◌, [], None, drop, map}
use Rattle.cp_model.specs.RulesTypes as ty
use Rattle.cp_model.specs.View as view
use Rattle.cp_rules.specs.Checking.{first_of}
use Rattle.cp_rules.specs.Records as records
use Rattle.cp_rules.specs.Records.{or_first}
use Rattle.cp_rules.specs.Types.{with_groups, with_indices}
use Rattle.cp_rules.proofs.checker.Checker.+types.Given as goal

-- the rest of the index types leads to the same end as all of them
abbrev pub invariant-index_types-loop-t : goal.invariant-index_types-loop-t
invariant-index_types-loop-t l =
    let now = l.self in
    let before = l.fn.self in
    let rest = ty.index_types now.env (view.types_of (map view.type_expression (drop l.t-index l.list))) in
    let all = ty.index_types before.env (view.types_of (map view.type_expression l.fn.list)) in
    record {
      made : with_indices now rest ≡ with_indices before all;
      answers : l.answers.items ++ map first_of rest.of ≡ map first_of all.of;
    }

-- the rest of the groups leads to the same end as all of them
abbrev pub invariant-record_type-loop-group : goal.invariant-record_type-loop-group
invariant-record_type-loop-group l =
    let now = l.self in
    let before = l.fn.self in
    let rest = records.groups now.env l.fields.members (map view.variables (drop l.group-index l.groups)) in
    let all = records.groups before.env [] (map view.variables l.fn.groups) in
    record {
      made : with_groups now rest ≡ with_groups before all;
      members : rest.members ≡ all.members;
      first : or_first l.fields.first rest.violations ≡ or_first None all.violations;
    }
