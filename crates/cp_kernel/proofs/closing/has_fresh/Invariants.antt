use Rattle.std.proofs.Common.{◌≡◌, ◌≢◌, ◌<◌, ℕ, Some, slice_get}
use Rattle.cp_private.specs.declared.kernel_view.SchedulingState.{SchedulingState}
use Rattle.cp_private.specs.declared.kernel_view.SchedulingState.TheVariants as stage
use Rattle.cp_kernel.proofs.closing.has_fresh.Given as goal

abbrev pub invariant-loop-stage : goal.invariant-loop-stage
invariant-loop-stage l = (i : ℕ) (g : SchedulingState) → i < l.stage-index → slice_get l.stages i ≡ Some g → g ≢ stage.Fresh
