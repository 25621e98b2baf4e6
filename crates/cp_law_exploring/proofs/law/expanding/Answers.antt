use Rattle.cp_law_exploring.proofs.Starting.{first_is_closed}
use Rattle.cp_law_exploring.proofs.Reported.{expanded_reports}
use Rattle.cp_law_exploring.proofs.law.expanding.Goals as goal

pub returns : goal.returns
returns c = record { first = first_is_closed; reports = expanded_reports }
