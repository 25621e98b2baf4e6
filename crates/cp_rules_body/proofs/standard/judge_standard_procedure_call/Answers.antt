use Rattle.std.proofs.Common.{Option, subst}
use Rattle.cp_model.specs.RulesNames as n
use Rattle.cp_model.specs.declared.rules.Rule.TheVariants.{C2}
use Rattle.cp_rules_body.specs.Callees.{ReportsCallee}
use Rattle.cp_rules_body.proofs.standard.judge_standard_procedure_call.Goals as goal

pub returns : goal.returns
returns c = λ env.
    let fits = n.standard_fits c.args.standard c.args.count in
    let reports = λ (called : Option n.Callee). ReportsCallee env c.args.diagnostics.now c.judge_standard_call.new.diagnostics c.judge_standard_call.result (n.standard_called C2 c.args.name.now fits called) in
    subst reports (c.standard_procedure-callee.ensures env) ((rw c.standard_fits-fits.ensures at c.judge_standard_call.ensures) env)
