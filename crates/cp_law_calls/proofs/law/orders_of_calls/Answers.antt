use Rattle.cp_law_calls.proofs.LawProofs.{by_calls_is_order, calls_determine_end, different_calls_swap, once, order_is_by_calls, orders_within, same_end, still_is_by_calls}
use Rattle.cp_law_calls.proofs.law.orders_of_calls.Goals as goal

pub returns : goal.returns
returns c = record {
  once = once;
  calls = order_is_by_calls;
  still = still_is_by_calls;
  order = by_calls_is_order;
  end = calls_determine_end;
  callers = same_end;
  swap = different_calls_swap;
  within = orders_within;
}
