use Rattle.std.proofs.Common.{◌+◌, List, map, ap, ◌∙◌}
use Rattle.std.proofs.lemmas.List.{take_rest}
use Rattle.cp_model.specs.View as view
use Rattle.cp_model.specs.declared.tree.TypeDefinition.{TypeDefinition}
use Rattle.cp_rules.specs.Checking.{after}
use Rattle.cp_rules.specs.Definitions.{define_types}
use Rattle.cp_rules.proofs.UntilBroken.{type_reported}
use Rattle.cp_rules.proofs.checker.Checker.define_types_until_broken.Goals as goal

pub returns-then-is_some-clause-same_end : goal.returns-then-is_some-clause-same_end
returns-then-is_some-clause-same_end c =
    let all = c.args.list.now in
    let new = c.define.new.self in
    ap (λ (ds : List TypeDefinition). after new (define_types new.env (map view.type_definition ds))) (take_rest all (c.loop-i.i + 1))
    ∙ type_reported c.loop-i.self new all c.loop-i.i c.index-list-i.result c.loop-i-test.true c.index-list-i.is c.in_ok-define.ensures
    ∙ c.loop-i.invariant

pub loop-i-preserved : goal.loop-i-preserved
loop-i-preserved c =
    type_reported c.loop-i.self c.define.new.self c.args.list.now c.loop-i.i c.index-list-i.result c.loop-i-test.true c.index-list-i.is c.in_ok-define.ensures
    ∙ c.loop-i.invariant
