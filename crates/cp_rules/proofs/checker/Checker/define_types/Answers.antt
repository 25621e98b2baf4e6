use Rattle.std.proofs.Common.{◌∙◌}
use Rattle.cp_rules.proofs.UntilBroken.{type_reported}
use Rattle.cp_rules.proofs.checker.Checker.define_types.Goals as goal

pub loop-d-preserved : goal.loop-d-preserved
loop-d-preserved c =
    type_reported c.loop-d.self c.define.new.self c.args.list.now c.loop-d.d-index c.d-item.result c.loop-d-test.true c.d-item.is c.in_ok-define.ensures
    ∙ c.loop-d.invariant
