use Rattle.std.proofs.Common.{◌≡◌, List, drop, take}
use Rattle.cp_model_program.specs.Plans.{pieces_before}
use Rattle.cp_model_program.specs.Programs as code
use Rattle.cp_program.specs.View as view
use Rattle.cp_compile_emit.specs.Drafts.{plan_of}
use Rattle.cp_compile_emit.proofs.draft.Draft.pieces.Given as goal

-- The pieces from this one on are planned.
abbrev pub invariant-loop-i : goal.invariant-loop-i
invariant-loop-i l =
    (known : List code.StartPlan) → view.plan_at known l.none ≡ code.Done → plan_of known l.self ≡ pieces_before l.at (view.plan_of (take l.below known) (drop l.i l.pieces)) (plan_of known l.fn.self)
