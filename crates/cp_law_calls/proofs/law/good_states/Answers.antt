use Rattle.cp_law_calls.proofs.LawProofs.{kinds_keep_good, reached_are_good, round_keeps_good, start_is_good, step_keeps_good}
use Rattle.cp_law_calls.proofs.law.good_states.Goals as goal

pub returns : goal.returns
returns c = record { start = start_is_good; step = step_keeps_good; kinds = kinds_keep_good; round = round_keeps_good; reached = reached_are_good }
