use Rattle.std.proofs.Common.{◌≡◌, length}
use Rattle.cp_rounds.proofs.run.empty_cells.Given as goal

abbrev pub invariant-loop-cell : goal.invariant-loop-cell
invariant-loop-cell g l = record { count : length l.cells.items ≡ l._cell }
