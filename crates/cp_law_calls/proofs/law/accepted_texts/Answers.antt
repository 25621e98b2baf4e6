use Rattle.cp_law_calls.proofs.LawProofs.{accepted_end, accepted_order, accepted_still}
use Rattle.cp_law_calls.proofs.law.accepted_texts.Goals as goal

pub returns : goal.returns
returns c = record { still = accepted_still; order = accepted_order; end = accepted_end }
