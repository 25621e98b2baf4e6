use Rattle.std.proofs.Common.{◌≡◌, ◌+◌, take}
use Rattle.cp_base_schedule.specs.Rounds.{rounds_of}
use Rattle.cp_rounds.specs.Views.{KeepsText, processes_of}
use Rattle.cp_execute.specs.Replayed.{MakesReplays}
use Rattle.cp_execute.proofs.replaying.replay_rounds.Given as goal

-- the first k rounds were made
abbrev pub invariant-loop-k : goal.invariant-loop-k
invariant-loop-k l = record {
  made : MakesReplays l.turn.steps (take l.k (rounds_of l.orders)) l.fn.machine l.machine;
  count : l.machine.rounds ≡ l.fn.machine.rounds + l.k;
  processes : processes_of l.machine ≡ processes_of l.fn.machine;
  text : KeepsText l.fn.machine l.machine;
}
