use Rattle.cp_law_search.proofs.Searched.{compiled_still_states_are_members, faults_are_in_members, no_order_is_stuck_by_calls, orders_settle_by_calls, still_states_are_members, verdicts_are_of_members}
use Rattle.cp_law_search.proofs.law.closed_by_calls.Goals as goal

pub returns : goal.returns
returns c = record {
  settles = orders_settle_by_calls;
  still = still_states_are_members;
  compiled = compiled_still_states_are_members;
  verdict = verdicts_are_of_members;
  faults = faults_are_in_members;
  none_stuck = no_order_is_stuck_by_calls;
}
