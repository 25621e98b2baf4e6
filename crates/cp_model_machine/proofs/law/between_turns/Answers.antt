use Rattle.cp_model_machine.proofs.MachineTurns.{output_moves}
use Rattle.cp_model_machine.proofs.RoundParts.{waking_is_waking}
use Rattle.cp_model_machine.proofs.law.between_turns.Goals as goal

pub returns : goal.returns
returns c = record {
  output = output_moves;
  wake = waking_is_waking;
}
