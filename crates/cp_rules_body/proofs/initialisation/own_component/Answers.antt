use Rattle.std.proofs.Common.{[]}
use Rattle.cp_model.specs.RulesEnvironment as r
use Rattle.cp_model.specs.RulesJudged.{violation}
use Rattle.cp_model.specs.declared.rules.Rule.TheVariants.{C12}
use Rattle.cp_rules_body.proofs.InitReported.{component_other}
use Rattle.cp_rules_body.proofs.Reports.{beside_reported}
use Rattle.cp_rules_body.proofs.initialisation.own_component.Goals as goal

pub returns-in_default : goal.returns-in_default
returns-in_default c =
    let env = c.args.env.now in
    let x = c.args.name.now in
    rw (component_other env x c.args.entity c.in_default.not-Variable)
    (beside_reported c.args.diagnostics.now c.anywhere.new.diagnostics c.report_violation.new.diagnostics c.anywhere.result (r.c4_c9_named env x c.args.entity)
    c.report_violation.result (violation C12 x.at) [] c.anywhere.ensures c.report_violation.ensures)
