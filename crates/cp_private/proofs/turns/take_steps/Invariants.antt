use Rattle.std.proofs.Common.{◌≡◌, ◌≤◌, ◌+◌, ◌*◌, ◌-◌, vec_capacity, vec_len}
use Rattle.cp_model_machine.specs.Steps as plain
use Rattle.cp_program.specs.View as view
use Rattle.cp_private.specs.Rooms.{HasRoomFor}
use Rattle.cp_private.specs.States.{IsReady, private_of}
use Rattle.cp_private.proofs.turns.take_steps.Given as goal

-- The steps that are left lead to the same state as the whole turn, and the process is ready for
-- them.
abbrev pub invariant-loop-left : goal.invariant-loop-left
invariant-loop-left l = record {
  few : l.left ≤ l.fn.count;
  room : HasRoomFor l.private l.left;
  number : l.private.number ≡ l.fn.private.number;
  length : vec_len l.private.output ≤ vec_len l.fn.private.output + 11 * (l.fn.count - l.left);
  capacity : vec_capacity l.fn.private.output ≤ vec_capacity l.private.output;
  ready : IsReady l.private;
  steps : plain.private_steps (view.program l.program) l.outside.clock l.left (private_of l.private l.outside.input.now)
      ≡ plain.private_steps (view.program l.fn.program) l.fn.outside.clock l.fn.count (private_of l.fn.private l.fn.outside.input.now);
}

abbrev pub decreases-loop-left : goal.decreases-loop-left
decreases-loop-left l = l.left
