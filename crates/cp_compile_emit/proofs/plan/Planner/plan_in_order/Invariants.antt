use Rattle.std.proofs.Common.{◌≡◌, drop, map}
use Rattle.cp_model_program.specs.Plans as text
use Rattle.cp_compile_emit.specs.Drafts.{plan_of}
use Rattle.cp_compile_emit.specs.Planning.{known_of, placed_in}
use Rattle.cp_compile_emit.proofs.plan.Planner.plan_in_order.Given as goal

-- The parts from this one on are planned.
abbrev pub invariant-loop-i : goal.invariant-loop-i
invariant-loop-i l = plan_of (known_of l.self) l.draft ≡ text.plan_in_order (map (placed_in (known_of l.self)) (drop l.i l.parts))
