use Rattle.cp_model.specs.RulesNames.{c2_index}
use Rattle.cp_rules_body.proofs.Reports.{both_left}
use Rattle.cp_rules_body.proofs.expressions.element_if.Goals as goal

pub returns-in_err-of : goal.returns-in_err-of
returns-in_err-of c = λ t0 t1 ja jb h g.
    rw c.from_residual.ensures (both_left (c2_index c.args.env.now c.args.at) t0 t1 c.args.diagnostics.now ja jb c.args.found (rw c.in_err-of.was at h) g)
