-- Steps that are made in registers.
use Rattle.std.specs.Prelude.{◌≡◌, ℕ, ℤ, List, Option, None, Some}
use Rattle.cp_model_machine.specs.Calling.{gate_effect}
use Rattle.cp_model_machine.specs.PrivateStates.{Acting, Effect, Leaves, NoEffect, StepContext, PrivateState}
use Rattle.cp_private.specs.States.{join}
use Rattle.cp_private.specs.declared.private.Private.{Private}
use Rattle.cp_private.specs.declared.turns.FastKernelPath.{FastKernelPath}
use Rattle.cp_private.specs.declared.turns.FastKernelPath.TheVariants as fast_kernel_path_case

-- The function `go` of the outside and the state leads from one private state and its shared words
-- to the other, and leaves this to the kernel, whatever is outside.
abbrev pub Makes : (StepContext → PrivateState → Acting) → Private → List ℤ → Private → List ℤ → Effect → Type 0
Makes go old before new after e = (w : StepContext) (input : List ℕ) → (join new input after, e) ≡ go w (join old input before)

-- Nothing has changed.
abbrev pub Stays : Private → List ℤ → Private → List ℤ → Type 0
Stays old before new after = (new ≡ old) × (after ≡ before)

-- What a step that was made leaves to the kernel.
abbrev pub left_by : FastKernelPath → Option Effect
left_by fast_kernel_path_case.Made = Some NoEffect
left_by (fast_kernel_path_case.Returned gate) = Some (gate_effect gate Leaves)
left_by fast_kernel_path_case.NotMade = None
