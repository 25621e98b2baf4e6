-- Processes that were started in the current round.
use Rattle.std.specs.Prelude.{◌≡◌, ◌≢◌, ℕ, List, Some, slice_get}
use Rattle.cp_private.specs.declared.kernel_view.SchedulingState.{SchedulingState}
use Rattle.cp_private.specs.declared.kernel_view.SchedulingState.TheVariants as stage

-- No process was started in the current round.
abbrev pub HasNoFresh : List SchedulingState → Type 0
HasNoFresh gs = (i : ℕ) (g : SchedulingState) → slice_get gs i ≡ Some g → g ≢ stage.Fresh
