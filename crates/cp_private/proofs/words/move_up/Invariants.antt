use Rattle.std.proofs.Common.{◌≡◌, length}
use Rattle.cp_model_program.specs.Starts.{block, paste}
use Rattle.cp_private.proofs.words.move_up.Given as goal

-- The iterations that are left lead to the same words as all of them.
abbrev pub invariant-loop-i : goal.invariant-loop-i
invariant-loop-i l = record {
  words : paste l.to (block l.words l.from l.i) l.words ≡ paste l.fn.to (block l.fn.words l.fn.from l.fn.count) l.fn.words;
  length : length l.words ≡ length l.fn.words;
}
