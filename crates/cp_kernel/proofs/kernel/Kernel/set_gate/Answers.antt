use Rattle.std.proofs.Common.{refl}
use Rattle.cp_kernel.specs.KernelOf.{kernel_of}
use Rattle.cp_kernel.proofs.Places.{gates_set}
use Rattle.cp_kernel.proofs.kernel.Kernel.set_gate.Goals as goal

pub returns-in-Some-clause-step : goal.returns-in-Some-clause-step
returns-in-Some-clause-step c =
    let k = c.args.self.now in
    rw c.index.ensures (gates_set (kernel_of k) k.gates.items c.args.m _ _ _ refl c.clear.ensures.items)
