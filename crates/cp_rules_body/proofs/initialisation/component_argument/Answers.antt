use Rattle.std.proofs.Common.{◌≡◌, ◌∙◌, ap, refl}
use Rattle.cp_model.specs.RulesJudged.{earlier, least, violation, violations_of}
use Rattle.cp_model.specs.RulesNames.{first_token}
use Rattle.cp_model.specs.RulesStatements as st
use Rattle.cp_model.specs.View.{expression}
use Rattle.cp_model.specs.declared.rules.Rule.TheVariants.{C12}
use Rattle.cp_rules_body.proofs.InitReported.{argument_named, argument_unnamed}
use Rattle.cp_rules_body.proofs.initialisation.component_argument.Goals as goal

pub returns-in-Some : goal.returns-in-Some
returns-in-Some c = rw (argument_named c.args.env.now c.args.wanted (expression c.args.value.now) c.in-Some.x.now c.in-Some.ensures) c.name_argument.ensures

pub returns-in-None : goal.returns-in-None
returns-in-None c =
    let env = c.args.env.now in
    let e = expression c.args.value.now in
    let diagnostics : c.report.new.diagnostics ≡ earlier c.args.diagnostics.now (violation C12 (first_token e)) = rw c.first_token.ensures at c.report.ensures in
    rw (argument_unnamed env c.args.wanted e c.in-None.ensures)
    (c.unwanted_argument.ensures.0 ∙ ap (λ t. least t (violations_of (st.surplus_argument env e))) diagnostics, refl)
