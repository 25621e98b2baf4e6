use Rattle.std.proofs.Common.{◌≤◌, ◌<◌, ℕ}
use Rattle.cp_rounds.specs.Ahead.{turns_ahead}
use Rattle.cp_rounds.proofs.ahead_turns.RunAheadTurns.of_all.Given as goal

abbrev pub invariant-loop-i : goal.invariant-loop-i
invariant-loop-i l = record {
  few : l.least ≤ l.self.later;
  all : (j : ℕ) → j < l.i → l.least ≤ turns_ahead l.self.turns.items j;
}
