use Rattle.cp_law_stillness.proofs.Rounds.{stays_still, still_on}
use Rattle.cp_law_stillness.proofs.law.lasting.Goals as goal

pub returns : goal.returns
returns c = record { stays = stays_still; more = still_on }
