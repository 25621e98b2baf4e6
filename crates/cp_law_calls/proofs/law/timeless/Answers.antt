use Rattle.cp_law_calls.proofs.LawProofs.{timeless_texts}
use Rattle.cp_law_calls.proofs.law.timeless.Goals as goal

pub returns : goal.returns
returns c = timeless_texts
