use Rattle.std.proofs.Common.{◌≡◌, ℕ, length}
use Rattle.cp_model_machine.specs.Machines.{Machine, kernel_turns}
use Rattle.cp_model.specs.States.{numbers_from}
use Rattle.cp_rounds.specs.Ahead.{IsReadyAhead, IsTime, PartsAhead}
use Rattle.cp_rounds.proofs.ahead_turns.finish_round.Given as goal

abbrev pub invariant-loop-i : goal.invariant-loop-i
invariant-loop-i g l = record {
  count : length l.privates.items ≡ length l.fn.privates.items;
  ready : IsReadyAhead g.C.Course.most l.ahead.later l.i l.ahead.turns.items l.privates.items l.kernel;
  parts : (rounds : ℕ) (m : Machine) → IsTime l.run.turns.config.now m l.round_time
      → PartsAhead l.run.turns.config.now l.run.turns.plan.turn.steps rounds m l.ahead.turns.items l.fn.privates.items l.fn.kernel
      → PartsAhead l.run.turns.config.now l.run.turns.plan.turn.steps rounds (kernel_turns l.run.turns.plan.turn.steps m (numbers_from 1 l.i)) l.ahead.turns.items
      l.privates.items l.kernel;
}
