use Rattle.std.proofs.Common.{◌++◌}
use Rattle.cp_model.specs.declared.rules.Mode.TheVariants as mode
use Rattle.cp_model.specs.RulesNames as n
use Rattle.cp_model.specs.View.{designator}
use Rattle.cp_rules_body.specs.ExpressionParts.{type_of_designator}
use Rattle.cp_rules_body.proofs.Reports.{also_reported}
use Rattle.cp_rules_body.proofs.assignments.other_left.Goals as goal

pub returns : goal.returns
returns c =
    let env = c.args.env.now in
    let d = designator c.args.designated.now in
    rw c.answer_if.ensures (also_reported c.args.diagnostics.now c.names_changeable-fits.new.diagnostics c.type_of_designator-t.new.diagnostics c.names_changeable-fits.result
    (n.c2_c5_c8_named env mode.Variable d ++ n.c10_designator env d) c.type_of_designator-t.result (type_of_designator env mode.Variable d) c.names_changeable-fits.ensures c.type_of_designator-t.ensures)
