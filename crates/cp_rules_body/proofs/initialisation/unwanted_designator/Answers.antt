use Rattle.cp_model.specs.RulesExpressions.{designate}
use Rattle.cp_model.specs.RulesJudged.{then_judge}
use Rattle.cp_model.specs.RulesNames.{c2_c5_c8_named}
use Rattle.cp_model.specs.RulesStatements as st
use Rattle.cp_model.specs.declared.rules.Mode.TheVariants as mode
use Rattle.cp_model.specs.View.{designator}
use Rattle.cp_rules_body.proofs.Reports.{also_reported}
use Rattle.cp_rules_body.proofs.initialisation.unwanted_designator.Goals as goal

pub returns : goal.returns
returns c =
    let env = c.args.env.now in
    let d = designator c.args.designated.now in
    rw c.answer_if.ensures (also_reported c.args.diagnostics.now c.names_fit-fits.new.diagnostics c.unused_designator-t.new.diagnostics c.names_fit-fits.result (c2_c5_c8_named env mode.Value d)
    c.unused_designator-t.result (then_judge (designate env d) (st.surplus_name env d)) c.names_fit-fits.ensures c.unused_designator-t.ensures)
