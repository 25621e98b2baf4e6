use Rattle.std.proofs.Common.{◌≡◌, ◌≤◌, ◌<◌, ◌-◌, ℕ, length}
use Rattle.cp_rounds.specs.Ahead.{turns_ahead}
use Rattle.cp_rounds.proofs.ahead_turns.RunAheadTurns.pass.Given as goal

abbrev pub invariant-loop-i : goal.invariant-loop-i
invariant-loop-i l = record {
  later : l.self.later ≡ l.fn.self.later - l.rounds;
  count : length l.self.turns.items ≡ length l.fn.self.turns.items;
  less : (j : ℕ) → j < l.i → turns_ahead l.self.turns.items j ≡ turns_ahead l.fn.self.turns.items j - l.rounds;
  left : (j : ℕ) → l.i ≤ j → turns_ahead l.self.turns.items j ≡ turns_ahead l.fn.self.turns.items j;
}
