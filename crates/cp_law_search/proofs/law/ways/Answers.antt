use Rattle.cp_law_search.proofs.Ways.{core_reports_way}
use Rattle.cp_law_search.proofs.law.ways.Goals as goal

pub returns : goal.returns
returns c = core_reports_way
