use Rattle.cp_model_machine.proofs.PrivateSteps.{private_step_is_step}
use Rattle.cp_model_machine.proofs.PrivateTurns.{private_turn_is_turn}
use Rattle.cp_model_machine.proofs.law.private_steps.Goals as goal

pub returns : goal.returns
returns c = record {
  step = private_step_is_step;
  turn = private_turn_is_turn;
}
