use Rattle.cp_model.specs.View as view
use Rattle.cp_rules.proofs.HeadingGroups.{group_hidden}
use Rattle.cp_rules.proofs.checker.Checker.group_of_parameters.Goals as goal

pub returns : goal.returns
returns c =
    group_hidden c.args.self.now c.args.of c.args.is_function (view.parameters c.args.group.now)
    c.declare_all.new.self c.judge_var.new.self c.parameter_type-t.new.self c.set_from.new.self
    c.mark-outside.result c.var_rule.result c.parameter_type-t.result
    c.mark-outside.ensures (rw c.deref.ensures.value at c.in_ok-declare_all.ensures) c.var_rule.ensures c.judge_var.ensures c.parameter_type-t.ensures
    c.set_from.ensures
