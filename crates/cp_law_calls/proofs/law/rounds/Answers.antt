use Rattle.cp_law_calls.proofs.LawProofs.{order_is_run, run_is_order, step_past_closing}
use Rattle.cp_law_calls.proofs.law.rounds.Goals as goal

pub returns : goal.returns
returns c = record { closing = step_past_closing; run = order_is_run; order = run_is_order }
