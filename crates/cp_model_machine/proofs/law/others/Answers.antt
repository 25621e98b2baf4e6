use Rattle.cp_model_machine.proofs.BeginsBeside.{kernel_turn_keeps_begins}
use Rattle.cp_model_machine.proofs.KernelTurns.{kernel_turn_keeps_parts, private_turn_keeps_kernel, private_turn_keeps_parts}
use Rattle.cp_model_machine.proofs.law.others.Goals as goal

pub returns : goal.returns
returns c = record {
  kernel = kernel_turn_keeps_parts;
  begins = kernel_turn_keeps_begins;
  private = private_turn_keeps_parts;
  shared = private_turn_keeps_kernel;
}
