use Rattle.cp_model.specs.RulesStatements.{c2_sides}
use Rattle.cp_rules_body.proofs.Reports.{both_left}
use Rattle.cp_rules_body.proofs.assignments.sides.Goals as goal

pub returns-in_err-found : goal.returns-in_err-found
returns-in_err-found c = λ t0 t1 ja jb h g.
    rw c.from_residual.ensures (both_left (c2_sides c.args.env.now c.args.at) t0 t1 c.args.diagnostics.now ja jb c.args.other (rw c.in_err-found.was at h) g)
