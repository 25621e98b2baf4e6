use Rattle.cp_law_servers.proofs.States.{done_is_sound, done_is_still, without_servers}
use Rattle.cp_law_servers.proofs.law.states.Goals as goal

pub returns : goal.returns
returns c = record { still = done_is_still; sound = done_is_sound; none = without_servers }
