use Rattle.cp_rounds_handoff.proofs.Crossing.{config_sync}
use Rattle.cp_rounds_handoff.proofs.law.configs_are_shared.Goals as goal

pub returns : goal.returns
returns c = config_sync
