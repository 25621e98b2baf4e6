use Rattle.std.proofs.Common.{◌≡◌, ◌≤◌, ℕ, true}
use Rattle.cp_model_machine.specs.KernelSteps.{is_begun, stage_of}
use Rattle.cp_kernel.specs.KernelOf.{kernel_of}
use Rattle.cp_search_states.proofs.alone.wakes_nobody.Given as goal

abbrev pub invariant-loop-i : goal.invariant-loop-i
invariant-loop-i l =
    (p : ℕ) → 1 ≤ p → p ≤ l.i → is_begun (stage_of (kernel_of l.after).stages p) ≡ true → is_begun (stage_of (kernel_of l.before).stages p) ≡ true
