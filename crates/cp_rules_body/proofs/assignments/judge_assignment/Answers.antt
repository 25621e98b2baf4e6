use Rattle.cp_model.specs.RulesStatements as st
use Rattle.cp_model.specs.View.{designator, expression}
use Rattle.cp_rules_body.proofs.StatementsReported.{component_reported}
use Rattle.cp_rules_body.proofs.assignments.judge_assignment.Goals as goal

pub returns : goal.returns
returns c =
    let env = c.args.env.now in
    let a = st.left_side env (designator c.args.designated.now) in
    let to_component = component_reported env a c.left-a.result c.left-a.ensures.1 in
    (c.sides.ensures c.args.diagnostics.now c.left-a.new.diagnostics a (st.right env a (expression c.args.value.now)) c.left-a.ensures
    (rw (c.is_component_type.ensures, to_component) at c.right-b.ensures)).0
