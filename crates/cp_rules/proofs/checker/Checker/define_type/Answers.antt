use Rattle.cp_model.specs.View as view
use Rattle.cp_rules.proofs.Defining.{type_defined}
use Rattle.cp_rules.proofs.checker.Checker.define_type.Goals as goal

pub returns : goal.returns
returns c =
    type_defined c.args.self.now c.declare.new.self c.judge_type.new.self c.set_from.new.self
    c.args.name.now c.type_entity.result c.mark-outside.result c.mark-outside.ensures c.set_from.ensures
    (view.type_expression c.args.written.now) c.in_ok-of.of c.in_ok-declare.ensures c.in_ok-of.ensures c.type_entity.ensures
