use Rattle.cp_law_gates.specs.InOrder.{world}
use Rattle.cp_law_gates.proofs.Reached.{round_keeps, start_in_order, whole_round_keeps}
use Rattle.cp_law_gates.proofs.Texts.{text_is_ordered}
use Rattle.cp_law_gates.proofs.law.order.Goals as goal

pub returns : goal.returns
returns c = record {
  start = λ setup typed. start_in_order setup (text_is_ordered setup typed);
  round = λ setup t events s typed i. round_keeps (world setup) (text_is_ordered setup typed) setup t events s i;
  whole = λ setup t s typed i. whole_round_keeps (world setup) (text_is_ordered setup typed) setup t s i;
}
