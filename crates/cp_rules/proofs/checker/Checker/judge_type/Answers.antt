use Rattle.cp_model.specs.View as view
use Rattle.cp_rules.proofs.TypesMade.{type_put}
use Rattle.cp_rules.proofs.checker.Checker.judge_type.Goals as goal

pub returns : goal.returns
returns c =
    type_put c.args.self.now c.type_of.new.self c.judge_position.new.self c.args.position (view.type_expression c.args.written.now)
    c.in_ok-of.of c.judge_position.result c.in_ok-of.ensures c.judge_position.ensures
