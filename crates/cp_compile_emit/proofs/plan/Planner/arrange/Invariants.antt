use Rattle.std.proofs.Common.{◌≡◌, ◌-◌, map}
use Rattle.cp_model_program.specs.Plans.{arranged}
use Rattle.cp_compile_emit.specs.Planning.{known_of, placed_in}
use Rattle.cp_compile_emit.proofs.PartsPlanned.{swept}
use Rattle.cp_compile_emit.proofs.plan.Planner.arrange.Given as goal

-- The parts before the last one that was compared stay where they are.
abbrev pub invariant-loop-i : goal.invariant-loop-i
invariant-loop-i l = swept (l.i - 1) (map (placed_in (known_of l.self)) l.parts) ≡ arranged (map (placed_in (known_of l.self)) l.fn.parts)
