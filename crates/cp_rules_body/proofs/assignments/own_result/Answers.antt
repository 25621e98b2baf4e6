use Rattle.cp_rules_body.proofs.StatementsReported.{own_result_some}
use Rattle.cp_rules_body.proofs.assignments.own_result.Goals as goal

pub returns-in_default : goal.returns-in_default
returns-in_default c = rw (own_result_some c.args.name.now c.args.selectors.now c.args.returns c.in_default.len_at_least) c.part_of_result.ensures
