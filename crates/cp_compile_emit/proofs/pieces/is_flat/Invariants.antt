use Rattle.std.proofs.Common.{◌≡◌, List, drop}
use Rattle.cp_model_program.specs.Plans as text
use Rattle.cp_model_program.specs.Programs as code
use Rattle.cp_program.specs.View.{plan_of}
use Rattle.cp_compile_emit.proofs.pieces.is_flat.Given as goal

-- The pieces so far are no parts.
abbrev pub invariant-loop-piece : goal.invariant-loop-piece
invariant-loop-piece l =
    (known : List code.StartPlan) → text.is_flat (plan_of known (drop l.piece-index l.pieces)) ≡ text.is_flat (plan_of known l.fn.pieces)
