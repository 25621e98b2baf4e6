use Rattle.cp_model_machine.proofs.MachineStarts.{end_is_end, round_is_round, rounds_are_run, start_is_in}
use Rattle.cp_model_machine.proofs.law.rounds.Goals as goal

pub returns : goal.returns
returns c = record {
  start = start_is_in;
  round = round_is_round;
  end = end_is_end;
  run = rounds_are_run;
}
