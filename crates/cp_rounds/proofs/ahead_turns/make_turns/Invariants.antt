use Rattle.std.proofs.Common.{◌≡◌, ◌-◌}
use Rattle.cp_rounds.proofs.AheadPasses.{HaveTurnedBelow}
use Rattle.cp_rounds.proofs.ahead_turns.make_turns.Given as goal

abbrev pub invariant-loop-i : goal.invariant-loop-i
invariant-loop-i g l = record {
  later : l.ahead.later ≡ l.fn.ahead.later - 1;
  turned : HaveTurnedBelow l.run.turns.config.now l.run.turns.plan.turn.steps l.round_time g.C.Course.most l.i l.fn.ahead.turns.items l.fn.privates.items
      l.ahead.turns.items l.privates.items;
}
