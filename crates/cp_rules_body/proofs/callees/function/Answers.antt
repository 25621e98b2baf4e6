use Rattle.cp_model.specs.RulesEnvironment as r
use Rattle.cp_model.specs.RulesNames as n
use Rattle.cp_model.specs.View.{designator}
use Rattle.cp_model.specs.declared.rules.Entity.TheVariants as entity
use Rattle.cp_rules_body.proofs.CalleesReported.{also_callee}
use Rattle.cp_rules_body.proofs.callees.function.Goals as goal

pub returns-in-Standard : goal.returns-in-Standard
returns-in-Standard c =
    let env = c.args.env.now in
    let d = designator c.args.designated.now in
    let s = c.in-Standard.standard in
    rw (c.in-Standard.is, c.answer_if-in-Standard.ensures) (also_callee env c.args.diagnostics.now c.in_place-in_place.new.diagnostics c.judge_standard_function_call.new.diagnostics
    c.in_place-in_place.result (r.c9_standard env (n.last_name d) (entity.Standard s)) c.judge_standard_function_call.result (n.standard_called (n.sort_rule c.args.mode d) (n.last_name d) (n.standard_fits s c.args.count) (n.standard_function s))
    (rw c.last_name-x.ensures at c.in_place-in_place.ensures) ((rw (c.last_name-x.ensures, c.sort_rule-rule.ensures) at c.judge_standard_function_call.ensures) env))
