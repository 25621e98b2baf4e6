use Rattle.std.proofs.Common.{◌≡◌, ◌+◌, ◌-◌}
use Rattle.cp_model_program.specs.Starts.{block, paste}
use Rattle.cp_private.proofs.words.bring.Given as goal

-- The iterations that are left lead to the same words as all of them.
abbrev pub invariant-loop-i : goal.invariant-loop-i
invariant-loop-i l =
    paste (l.to + l.i) (block l.source (l.from + l.i) (l.count - l.i)) l.words ≡ paste l.fn.to (block l.fn.source l.fn.from l.fn.count) l.fn.words
