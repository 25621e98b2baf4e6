use Rattle.cp_law_search.proofs.Settling.{eager_step_settles, private_turn_settles, settled_settles, steps_of_kinds}
use Rattle.cp_law_search.proofs.law.settling.Goals as goal

pub returns : goal.returns
returns c = record { kinds = steps_of_kinds; step = eager_step_settles; turn = private_turn_settles; here = settled_settles }
