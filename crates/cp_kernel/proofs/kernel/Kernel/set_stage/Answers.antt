use Rattle.cp_kernel.specs.KernelOf.{kernel_of}
use Rattle.cp_kernel.proofs.Places.{stages_set}
use Rattle.cp_kernel.proofs.kernel.Kernel.set_stage.Goals as goal

pub returns-in-Some-clause-step : goal.returns-in-Some-clause-step
returns-in-Some-clause-step c =
    let k = c.args.self.now in
    rw c.index.ensures (stages_set (kernel_of k) k.stages.items c.args.p c.args.stage)
