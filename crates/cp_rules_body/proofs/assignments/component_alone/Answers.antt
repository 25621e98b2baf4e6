use Rattle.std.proofs.Common.{sym}
use Rattle.cp_rules_body.proofs.StatementsReported.{component_alone_some}
use Rattle.cp_rules_body.proofs.assignments.component_alone.Goals as goal

pub returns-in_default : goal.returns-in_default
returns-in_default c = sym (component_alone_some c.args.env.now c.args.name.now c.args.selectors.now c.in_default.len_at_least)
