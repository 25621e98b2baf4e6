use Rattle.cp_model_machine.proofs.MachineReplays.{lawful_replay_is_round, replay_is_replay}
use Rattle.cp_model_machine.proofs.law.replays.Goals as goal

pub returns : goal.returns
returns c = record { replay = replay_is_replay; lawful = lawful_replay_is_round }
