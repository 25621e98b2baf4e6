use Rattle.cp_model_machine.proofs.KernelStarts.{kernel_starts}
use Rattle.cp_model_machine.proofs.Starting.{start_is_part}
use Rattle.cp_model_machine.proofs.law.start.Goals as goal

pub returns : goal.returns
returns c = record {
  parts = start_is_part;
  kernel = kernel_starts;
}
