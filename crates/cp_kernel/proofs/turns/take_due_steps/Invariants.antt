use Rattle.std.proofs.Common.{◌≡◌, ◌≤◌, ◌+◌, ◌*◌, ◌-◌, ℕ, true, vec_capacity, vec_len}
use Rattle.cp_model_machine.specs.KernelSteps as plain
use Rattle.cp_program.specs.View as view
use Rattle.cp_private.specs.Rooms.{HasRoomFor}
use Rattle.cp_kernel.specs.KernelOf.{HasRoomForAskers, IsBegun, turning}
use Rattle.cp_kernel.proofs.turns.take_due_steps.Given as goal

-- The steps that are left lead to the same state as the whole turn. Once the process asks, no step
-- is due any more.
abbrev pub invariant-loop-left : goal.invariant-loop-left
invariant-loop-left l = record {
  few : l.left ≤ l.fn.count;
  due : plain.is_due (view.program l.program) (turning l.kernel l.private l.input) ≡ l.due;
  begun : l.due ≡ true → IsBegun l.kernel l.private.number;
  room : HasRoomFor l.private l.left;
  asking : (n : ℕ) → HasRoomForAskers l.fn.kernel (n + 1) → HasRoomForAskers l.kernel n;
  kept : (n : ℕ) → IsBegun l.kernel l.fn.private.number → HasRoomForAskers l.fn.kernel n → HasRoomForAskers l.kernel n;
  transcripts : l.kernel.transcripts ≡ l.fn.kernel.transcripts;
  number : l.private.number ≡ l.fn.private.number;
  length : vec_len l.private.output ≤ vec_len l.fn.private.output + 11 * (l.fn.count - l.left);
  capacity : vec_capacity l.fn.private.output ≤ vec_capacity l.private.output;
  steps : plain.kernel_steps (view.program l.program) l.clock l.left (turning l.kernel l.private l.input)
      ≡ plain.kernel_steps (view.program l.fn.program) l.fn.clock l.fn.count (turning l.fn.kernel l.fn.private l.fn.input);
}

abbrev pub decreases-loop-left : goal.decreases-loop-left
decreases-loop-left l = l.left
