use Rattle.std.proofs.Common.{◌≤◌, ◌+◌, ◌-◌}
use Rattle.std.specs.Prelude.{if◌then◌else◌}
use Rattle.cp_rounds_still.specs.Stillness.{NoneStillBefore}
use Rattle.cp_rounds.specs.Views.{IsAfter}
use Rattle.cp_rounds_still.proofs.until_still.run_until_still.Given as goal

abbrev pub invariant-rounds : goal.invariant-rounds
invariant-rounds g l = record {
  bound : l.done ≤ l.limit;
  after : IsAfter l.plan.turn.steps l.done l.fn.machine l.machine;
  first : NoneStillBefore l.plan.turn.steps l.done l.fn.machine;
}

-- A gallop makes rounds, or leads past the first still state for the first time, or is shorter than
-- the last one.
abbrev pub decreases-rounds : goal.decreases-rounds
decreases-rounds g l = l.limit - l.done + (if l.gallop.past then l.gallop.rounds else 65537)
