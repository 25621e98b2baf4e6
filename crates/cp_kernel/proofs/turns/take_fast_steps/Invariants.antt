use Rattle.std.proofs.Common.{◌≡◌, ◌≤◌, ℕ, List, true}
use Rattle.cp_private.specs.States.{activity}
use Rattle.cp_model_machine.specs.KernelSteps as plain
use Rattle.cp_model_machine.specs.PrivateStates.{is_running}
use Rattle.cp_program.specs.View as view
use Rattle.cp_kernel.specs.KernelOf.{HasRoomForAskers, IsBegun, turning}
use Rattle.cp_kernel.proofs.turns.take_fast_steps.Given as goal

-- The steps that are left lead to the same state as all of them.
abbrev pub invariant-loop-left : goal.invariant-loop-left
invariant-loop-left l = record {
  few : l.left ≤ l.fn.count;
  held : l.private.gate ≡ 0 → ⊥;
  running : is_running (activity l.private.activity) ≡ true;
  begun : IsBegun l.kernel l.private.number;
  number : l.private.number ≡ l.fn.private.number;
  output : l.private.output ≡ l.fn.private.output;
  transcripts : l.kernel.transcripts ≡ l.fn.kernel.transcripts;
  asking : (n : ℕ) → HasRoomForAskers l.fn.kernel n → HasRoomForAskers l.kernel n;
  same : l.left ≡ l.fn.count → (input : List ℕ) → turning l.kernel l.private input ≡ turning l.fn.kernel l.fn.private input;
  steps : (clock : ℕ) (input : List ℕ) → plain.kernel_steps (view.program l.program) clock l.left (turning l.kernel l.private input)
      ≡ plain.kernel_steps (view.program l.fn.program) clock l.fn.count (turning l.fn.kernel l.fn.private input);
}

abbrev pub decreases-loop-left : goal.decreases-loop-left
decreases-loop-left l = l.left
