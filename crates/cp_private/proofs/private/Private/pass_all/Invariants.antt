use Rattle.std.proofs.Common.{◌≡◌, ℕ, length, map}
use Rattle.cp_model_machine.specs.Passing.{pass_all}
use Rattle.cp_program.specs.View as view
use Rattle.cp_private.specs.Keeping.{ChangesOnlyWords}
use Rattle.cp_private.specs.States.{join, outside_of}
use Rattle.cp_private.proofs.private.Private.pass_all.Given as goal

-- The iterations that are left lead to the same words as all of them.
abbrev pub invariant-loop-argument : goal.invariant-loop-argument
invariant-loop-argument l = record {
  step : (own : ℕ) → pass_all (outside_of l.outside own) l.destination.to l.destination.home (map view.argument l.left)
      (join l.self l.outside.input.now l.shared)
      ≡ pass_all (outside_of l.fn.outside own) l.fn.destination.to l.fn.destination.home (map view.argument l.fn.arguments)
      (join l.fn.self l.fn.outside.input.now l.fn.shared);
  kept : ChangesOnlyWords l.fn.self l.fn.shared l.self l.shared;
}

abbrev pub decreases-loop-argument : goal.decreases-loop-argument
decreases-loop-argument l = length l.left
