use Rattle.std.proofs.Common.{◌≡◌, ◌+◌, ◌-◌, ◌++◌, length}
use Rattle.cp_model_program.specs.Starts as plain
use Rattle.cp_private.proofs.words.fill.Given as goal

-- The iterations that are left lead to the same words as all of them.
abbrev pub invariant-loop-i : goal.invariant-loop-i
invariant-loop-i l = record {
  words : plain.fill (l.at + l.i) (l.count - l.i) l.n (l.own ++ l.shared) ≡ plain.fill l.fn.at l.fn.count l.fn.n (l.fn.own ++ l.fn.shared);
  own : length l.own ≡ length l.fn.own;
  shared : length l.shared ≡ length l.fn.shared;
}
