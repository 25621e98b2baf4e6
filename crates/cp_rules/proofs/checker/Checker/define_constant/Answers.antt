use Rattle.cp_rules.proofs.Defining.{constant_defined}
use Rattle.cp_rules.proofs.checker.Checker.define_constant.Goals as goal

pub returns : goal.returns
returns c =
    constant_defined c.args.self.now c.declare.new.self c.constant-value.new.self c.set_from.new.self
    c.args.definition.now.name c.constant_entity.result c.mark-outside.result c.mark-outside.ensures c.set_from.ensures
    c.args.definition.now.value c.constant-value.result c.in_ok-declare.ensures c.constant-value.ensures c.constant_entity.ensures
