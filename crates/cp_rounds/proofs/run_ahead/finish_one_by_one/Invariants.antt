use Rattle.std.proofs.Common.{◌≡◌, ◌+◌, length}
use Rattle.cp_model_machine.specs.Machines.{Machine, phased_rounds}
use Rattle.cp_model.specs.States.{numbers_from}
use Rattle.cp_rounds_handoff.specs.Turned.{with_turn_taken}
use Rattle.cp_rounds.specs.Ahead.{IsReadyAhead, IsTime, PartsAhead}
use Rattle.cp_rounds.proofs.run_ahead.finish_one_by_one.Given as goal

abbrev pub invariant-loop-next : goal.invariant-loop-next
invariant-loop-next g l = record {
  count : length l.privates.items ≡ length l.fn.privates.items;
  later : l.ahead.later + l.next ≡ l.fn.ahead.later;
  ready : IsReadyAhead g.C.Course.most l.ahead.later (length l.privates.items) l.ahead.turns.items l.privates.items l.kernel;
  made : (m : Machine) → IsTime l.run.turns.config.now m l.fn.round_time → m.tick ≡ l.run.turns.config.now.tick.rounds → m.rounds ≡ l.run.turns.done + l.index
      → PartsAhead l.run.turns.config.now l.run.turns.plan.turn.steps (m.rounds + 1) (with_turn_taken l.run.turns.plan.turn.steps m) l.fn.ahead.turns.items
      l.fn.privates.items l.fn.kernel
      → PartsAhead l.run.turns.config.now l.run.turns.plan.turn.steps (m.rounds + (l.next + 1))
      (phased_rounds l.run.turns.plan.turn.steps (numbers_from 1 (length l.fn.privates.items)) (l.next + 1) m) l.ahead.turns.items l.privates.items l.kernel;
}
