use Rattle.cp_law_search.proofs.Found.{found_by_calls_is_real, found_is_exact, run_is_real}
use Rattle.cp_law_search.proofs.law.found_by_calls.Goals as goal

pub returns : goal.returns
returns c = record { run = run_is_real; calls = found_by_calls_is_real; exact = found_is_exact }
