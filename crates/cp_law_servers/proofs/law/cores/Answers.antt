use Rattle.cp_law_servers.proofs.Cores.{core_reports_done}
use Rattle.cp_law_servers.proofs.law.cores.Goals as goal

pub returns : goal.returns
returns c = core_reports_done
