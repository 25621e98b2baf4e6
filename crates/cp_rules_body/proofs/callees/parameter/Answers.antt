use Rattle.std.proofs.Common.{◌∙◌, sym, drop}
use Rattle.cp_rules_body.proofs.Lists.{slice_get_take, slice_get_take_past}
use Rattle.cp_rules_body.proofs.callees.parameter.Goals as goal

pub returns-then-number-count : goal.returns-then-number-count
returns-then-number-count c =
    c.parameter.ensures ∙ sym (slice_get_take c.args.count (drop c.args.first c.args.env.now.parameters) c.args.number c.if-number-count.true)

pub returns-else-number-count : goal.returns-else-number-count
returns-else-number-count c = sym (slice_get_take_past c.args.count (drop c.args.first c.args.env.now.parameters) c.args.number c.if-number-count.false)
