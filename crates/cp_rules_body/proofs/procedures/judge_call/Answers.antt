use Rattle.std.proofs.Common.{◌≡◌, map, length, sym}
use Rattle.cp_model.specs.declared.rules.Mode.TheVariants as mode
use Rattle.cp_model.specs.RulesExpressions as x
use Rattle.cp_model.specs.RulesJudged.{both, violations_of}
use Rattle.cp_model.specs.RulesNames as n
use Rattle.cp_model.specs.View.{designator, expression, expressions_of}
use Rattle.cp_rules_body.specs.StatementParts as parts
use Rattle.cp_rules_body.proofs.ExpressionsReported.{count_expressions, result_reported}
use Rattle.cp_rules_body.proofs.Reports.{more_reported}
use Rattle.cp_rules_body.proofs.procedures.judge_call.Goals as goal

pub returns : goal.returns
returns c =
    let env = c.args.env.now in
    let d = designator c.args.designated.now in
    let list = c.args.list.now in
    let es = expressions_of (map expression list) in
    let count : length list ≡ n.count_of es = sym (count_expressions list) in
    let jc = parts.procedure_called env d (n.count_of es) in
    let ja = x.arguments env (x.wants_in env (x.designate env d) jc) es in
    let callee = rw count at c.judge_callee-called.ensures.callee in
    let wanted = rw count at c.judge_callee-called.ensures.wants in
    let given = rw wanted at c.arguments.ensures in
    let result = result_reported env c.names_fit.new.diagnostics c.judge_callee-called.new.diagnostics c.arguments.new.diagnostics c.judge_callee-called.result.callee c.arguments.result jc ja callee given in
    more_reported c.args.diagnostics.now c.names_fit.new.diagnostics c.arguments.new.diagnostics (n.c2_c5_c8_named env mode.Value d) (violations_of (both jc ja (x.result_of env))) c.names_fit.ensures.0 result.0
