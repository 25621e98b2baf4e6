use Rattle.std.proofs.Common.{◌≡◌, ◌-◌, ◌<◌, ◌^◌, ◌++◌, length}
use Rattle.cp_model_program.specs.Starts.{repeat_block}
use Rattle.cp_private.proofs.words.repeat.Given as goal

-- The iterations that are left lead to the same words as all of them.
abbrev pub invariant-loop-i : goal.invariant-loop-i
invariant-loop-i l = record {
  small : l.from < 2 ^ 34;
  words : repeat_block l.from l.size (l.count - l._i) (l.own ++ l.shared) ≡ repeat_block l.fn.at l.fn.size l.fn.count (l.fn.own ++ l.fn.shared);
  own : length l.own ≡ length l.fn.own;
  shared : length l.shared ≡ length l.fn.shared;
}
