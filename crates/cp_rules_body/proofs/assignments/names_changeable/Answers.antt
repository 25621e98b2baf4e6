use Rattle.std.proofs.Common.{◌∙◌}
use Rattle.cp_model.specs.declared.rules.Mode.TheVariants as mode
use Rattle.cp_model.specs.RulesNames as n
use Rattle.cp_model.specs.View.{designator}
use Rattle.cp_rules_body.proofs.Reports.{append_reported}
use Rattle.cp_rules_body.proofs.assignments.names_changeable.Goals as goal

pub returns-then-fits : goal.returns-then-fits
returns-then-fits c =
    let env = c.args.env.now in
    let d = designator c.args.designated.now in
    let diagnostics = append_reported c.args.diagnostics.now c.names_fit-fits.new.diagnostics c.designates_variable-is_variable.new.diagnostics c.names_fit-fits.result c.designates_variable-is_variable.result
    (n.c2_c5_c8_named env mode.Variable d) (n.c10_designator env d) c.names_fit-fits.ensures c.designates_variable-is_variable.ensures in
    (diagnostics.0, rw c.if-fits.true at diagnostics.1)

pub returns-else-fits : goal.returns-else-fits
returns-else-fits c =
    let env = c.args.env.now in
    let d = designator c.args.designated.now in
    let diagnostics = append_reported c.args.diagnostics.now c.names_fit-fits.new.diagnostics c.designates_variable-is_variable.new.diagnostics c.names_fit-fits.result c.designates_variable-is_variable.result
    (n.c2_c5_c8_named env mode.Variable d) (n.c10_designator env d) c.names_fit-fits.ensures c.designates_variable-is_variable.ensures in
    (diagnostics.0, c.if-fits.false ∙ (rw c.if-fits.false at diagnostics.1))
