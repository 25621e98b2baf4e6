use Rattle.std.proofs.Common.{◌≡◌, length}
use Rattle.cp_rounds.proofs.ahead_turns.RunAheadTurns.none.Given as goal

abbrev pub invariant-loop-process : goal.invariant-loop-process
invariant-loop-process l = length l.turns.items ≡ l._process
