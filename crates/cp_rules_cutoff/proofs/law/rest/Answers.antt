use Rattle.cp_rules_cutoff.proofs.NothingEarlier.{rest_reported}
use Rattle.cp_rules_cutoff.proofs.law.rest.Goals as goal

pub returns : goal.returns
returns c = rest_reported
