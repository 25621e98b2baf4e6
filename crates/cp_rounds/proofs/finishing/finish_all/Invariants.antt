use Rattle.std.proofs.Common.{◌≡◌, ℕ, length, take}
use Rattle.cp_rounds_handoff.specs.Numbers.{AreNumbered}
use Rattle.cp_rounds_handoff.specs.Tasks.{AreHere, AreInPlace, is_none}
use Rattle.cp_rounds_handoff.specs.Turned.{round_time_of}
use Rattle.cp_rounds.specs.Made.{IsReady}
use Rattle.cp_rounds.specs.Runs.{TurnsTaken}
use Rattle.cp_rounds.proofs.finishing.finish_all.Given as goal

abbrev pub invariant-loop-i : goal.invariant-loop-i
invariant-loop-i g l = record {
  count : length l.privates.items ≡ length l.round.start.value.items;
  left : AreInPlace l.round.round_time.wakes l.i l.round.start.value.items l.privates.items;
  here : AreHere (is_none l.round.token) l.i l.round.start.value.items l.privates.items;
  ready : IsReady g.C.Course.most l.i l.round.start.value.items l.kernel;
  numbers : AreNumbered (take l.i l.privates.items);
  taken : (rounds : ℕ) → l.round.round_time ≡ round_time_of l.run.turns.config.now.tick.rounds rounds
      → TurnsTaken l.run.turns.config.now l.run.turns.plan.turn.steps rounds l.round.start.value.items l.fn.kernel (take l.i l.privates.items) l.kernel;
}
