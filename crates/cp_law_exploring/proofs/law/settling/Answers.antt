use Rattle.cp_law_exploring.proofs.Settling.{closed_is_at_rest, kernel_step_is_before, late_is_of_kernel, none_eager_settles, turn_is_before, turn_is_kernel_step}
use Rattle.cp_law_exploring.proofs.law.settling.Goals as goal

pub returns : goal.returns
returns c = record {
  turn = turn_is_before;
  kernel = turn_is_kernel_step;
  step = kernel_step_is_before;
  late = late_is_of_kernel;
  closed = closed_is_at_rest;
  none = none_eager_settles;
}
