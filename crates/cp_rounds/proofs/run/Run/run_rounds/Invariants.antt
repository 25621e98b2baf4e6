use Rattle.std.proofs.Common.{◌≡◌, ◌≤◌, ◌-◌, length}
use Rattle.cp_rounds.specs.Runs.{PartsAfter}
use Rattle.cp_rounds.proofs.run.Run.run_rounds.Given as goal

abbrev pub invariant-rounds : goal.invariant-rounds
invariant-rounds g l = record {
  bound : l.round ≤ length l.self.cells.now;
  count : length l.parts.privates.items ≡ length l.fn.parts.privates.items;
  made : PartsAfter l.self.turns.config.now l.self.turns.plan.turn.steps l.self.turns.done l.round l.fn.parts l.parts;
}

abbrev pub decreases-rounds : goal.decreases-rounds
decreases-rounds g l = length l.self.cells.now - l.round
