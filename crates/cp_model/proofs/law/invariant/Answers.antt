use Rattle.cp_model.proofs.OutsideReach.{close_round_keeps}
use Rattle.cp_model.proofs.StateInvariant.{event_keeps, kernel_step_keeps, kernel_turn_keeps, private_step_keeps, private_turn_keeps, replay_round_keeps, run_keeps, sequential_round_keeps, wake_keeps}
use Rattle.cp_model.proofs.StartInvariant.{start_invariant}
use Rattle.cp_model.proofs.PhasedRounds.{own_parts_keep}
use Rattle.cp_model.proofs.law.invariant.Goals as goal

pub returns : goal.returns
returns c = record {
  start = start_invariant;
  private_step = λ setup p s i. private_step_keeps setup s p i;
  kernel_step = λ setup p s i. kernel_step_keeps setup s p i;
  private_turn = λ setup t p s i. private_turn_keeps setup t s p i;
  kernel_turn = λ setup t p s i. kernel_turn_keeps setup t s p i;
  own_parts = own_parts_keep;
  wake = wake_keeps;
  close = close_round_keeps;
  event = λ setup t e s i. event_keeps setup t s e i;
  round = λ setup t es s i. replay_round_keeps setup t s es i;
  sequential_round = sequential_round_keeps;
  run = run_keeps;
}
