use Rattle.std.proofs.Common.{◌<◌}
use Rattle.cp_rounds_handoff.proofs.task.Task.make.Given as goal

abbrev pub invariant-loop-turn : goal.invariant-loop-turn
invariant-loop-turn g l = 0 < l.self.made
