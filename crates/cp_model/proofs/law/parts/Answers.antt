use Rattle.cp_model.proofs.PrivateStepsKept.{own_part_is_turned, own_parts_kernel_part, wake_kernel_part}
use Rattle.cp_model.proofs.PartsKept.{kernel_turn_makes_none_private, kernel_turn_other_parts, private_step_kernel_part, private_step_other_parts}
use Rattle.cp_model.proofs.PrivatelyReady.{kernel_turn_keeps_privately_ready}
use Rattle.cp_model.proofs.law.parts.Goals as goal

pub returns : goal.returns
returns c = record {
  turned = own_part_is_turned;
  own_parts = own_parts_kernel_part;
  wake = wake_kernel_part;
  private_step = private_step_kernel_part;
  beside_private_step = private_step_other_parts;
  beside_kernel_turn = kernel_turn_other_parts;
  privately_ready = kernel_turn_keeps_privately_ready;
  none_private = kernel_turn_makes_none_private;
}
