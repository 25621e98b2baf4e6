use Rattle.cp_law_cores.proofs.Turns.{close_nobody}
use Rattle.cp_law_cores.proofs.Wiped.{wiped_represents}
use Rattle.cp_law_cores.proofs.law.searching.Goals as goal

pub returns : goal.returns
returns c = record { nobody = close_nobody; wiped = wiped_represents }
