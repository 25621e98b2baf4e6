use Rattle.std.proofs.Common.{◌≡◌, ℕ, ◌<◌, ◌≤◌, ◌||◌, get_or, length, false}
use Rattle.cp_board.specs.declared.view.TheConstants.{MAX_STRIPES}
use Rattle.cp_board.proofs.marks.either.Given as goal

abbrev pub invariant-loop-j : goal.invariant-loop-j
invariant-loop-j l = record {
  len : length l.both ≡ MAX_STRIPES;
  before : (i : ℕ) → i < l.j → get_or l.both i false ≡ (get_or l.first i false || get_or l.second i false);
  after : (i : ℕ) → l.j ≤ i → get_or l.both i false ≡ get_or l.first i false;
}
