use Rattle.cp_model_machine.proofs.KernelTurns.{joined_step_is_step, kernel_step_is_step, kernel_turn_is_turn}
use Rattle.cp_model_machine.proofs.law.kernel_steps.Goals as goal

pub returns : goal.returns
returns c = record {
  step = kernel_step_is_step;
  joined = joined_step_is_step;
  turn = kernel_turn_is_turn;
}
