use Rattle.cp_model.specs.RulesExpressions.{c2_operands}
use Rattle.cp_rules_body.proofs.Reports.{both_left}
use Rattle.cp_rules_body.proofs.expressions.judge_operation.Goals as goal

pub returns-in_err-left : goal.returns-in_err-left
returns-in_err-left c = λ t0 t1 ja jb h g.
    rw c.from_residual.ensures (both_left (c2_operands c.args.env.now c.args.operator c.args.at) t0 t1 c.args.diagnostics.now ja jb c.args.right (rw c.in_err-left.was at h) g)
