use Rattle.std.proofs.Common.{◌≡◌, ◌+◌, ◌-◌, ◌++◌, length}
use Rattle.cp_model_program.specs.Starts.{block, paste}
use Rattle.cp_private.proofs.words.copy_down.Given as goal

-- The iterations that are left lead to the same words as all of them.
abbrev pub invariant-loop-i : goal.invariant-loop-i
invariant-loop-i l = record {
  words : paste (l.to + l.i) (block (l.own ++ l.shared) (l.from + l.i) (l.count - l.i)) (l.own ++ l.shared)
      ≡ paste l.fn.to (block (l.fn.own ++ l.fn.shared) l.fn.from l.fn.count) (l.fn.own ++ l.fn.shared);
  own : length l.own ≡ length l.fn.own;
  shared : length l.shared ≡ length l.fn.shared;
}
