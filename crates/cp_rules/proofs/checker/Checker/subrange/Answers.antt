use Rattle.cp_model.specs.RulesEnvironment.{Environment}
use Rattle.cp_model.specs.RulesTypes as types
use Rattle.cp_rules.proofs.Judging.{both_judged}
use Rattle.cp_rules.proofs.checker.Checker.subrange.Goals as goal

pub returns : goal.returns
returns c =
    let env = c.args.self.now.env in
    both_judged (types.c2_c3_subrange (types.constant_at c.args.high.now)) c.args.self.now c.constant-first.new.self c.constant-last.new.self c.judge_bounds.new.self
    c.constant-first.result c.constant-last.result c.judge_bounds.result (types.constant env c.args.low.now) (λ (e : Environment). types.constant e c.args.high.now)
    c.constant-first.ensures c.constant-last.ensures (rw c.constant_at.ensures at c.judge_bounds.ensures)
