use Rattle.std.proofs.Common.{sym}
use Rattle.cp_rules_body.proofs.InitReported.{whole_name_some}
use Rattle.cp_rules_body.proofs.initialisation.whole_name.Goals as goal

pub returns-in_default : goal.returns-in_default
returns-in_default c = sym (whole_name_some c.args.name.now c.args.selectors.now c.in_default.len_at_least)
