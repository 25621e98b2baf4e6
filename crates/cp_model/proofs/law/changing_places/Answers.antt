use Rattle.cp_model.proofs.LawfulRounds.{turn_past}
use Rattle.cp_model.proofs.OwnSteps.{private_past_private}
use Rattle.cp_model.proofs.SharedTurns.{shared_turns_are_lawful}
use Rattle.cp_model.proofs.OutsideReach.{may_commute}
use Rattle.cp_model.proofs.law.changing_places.Goals as goal

pub returns : goal.returns
returns c = record {
  private_steps = λ setup s p q d i. private_past_private setup s p q d (may_commute s i);
  kernel_turn = turn_past;
  shared_turns = shared_turns_are_lawful;
}
