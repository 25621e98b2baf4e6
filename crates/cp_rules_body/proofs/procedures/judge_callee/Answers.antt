use Rattle.std.proofs.Common.{◌∙◌}
use Rattle.cp_model.specs.declared.rules.Mode.TheVariants as mode
use Rattle.cp_model.specs.RulesExpressions as x
use Rattle.cp_model.specs.RulesNames as n
use Rattle.cp_model.specs.View.{designator}
use Rattle.cp_rules_body.specs.StatementParts as parts
use Rattle.cp_rules_body.proofs.CalleesReported.{also_callee}
use Rattle.cp_rules_body.proofs.ExpressionsReported.{wants_reported}
use Rattle.cp_rules_body.proofs.procedures.judge_callee.Goals as goal

pub returns-clause-callee : goal.returns-clause-callee
returns-clause-callee c =
    let env = c.args.env.now in
    let d = designator c.args.designated.now in
    let je = x.designate env d in
    let t1 = c.no_indexed_value-no_value.new.diagnostics in
    rw c.answer_if-callee.ensures (also_callee env c.args.diagnostics.now t1 c.procedure_if-procedure.new.diagnostics c.no_indexed_value-no_value.result (n.c2_indexed env mode.Value d)
    c.procedure_if-procedure.result (parts.procedure_if env d c.args.count je) c.no_indexed_value-no_value.ensures
    (c.procedure_if-procedure.ensures t1 je c.judge_designator-entity.ensures))

pub returns-clause-wants : goal.returns-clause-wants
returns-clause-wants c =
    let env = c.args.env.now in
    let d = designator c.args.designated.now in
    let je = x.designate env d in
    c.wants_of_call.ensures ∙ wants_reported env c.judge_designator-entity.result je c.answer_if-callee.result (parts.procedure_called env d c.args.count) c.judge_designator-entity.ensures.1
    (returns-clause-callee c).1
