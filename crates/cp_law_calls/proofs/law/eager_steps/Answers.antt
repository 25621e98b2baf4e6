use Rattle.cp_law_calls.proofs.LawProofs.{different_calls_commute, eager_steps_commute, late_is_of_kernel, leaving_moves_earlier, private_is_eager, taking_moves_later}
use Rattle.cp_law_calls.proofs.law.eager_steps.Goals as goal

pub returns : goal.returns
returns c = record {
  both = eager_steps_commute;
  taking = taking_moves_later;
  leaving = leaving_moves_earlier;
  calls = different_calls_commute;
  private = private_is_eager;
  kernel = late_is_of_kernel;
}
