use Rattle.std.proofs.Common.{refl, sym}
use Rattle.cp_program.specs.View as view
use Rattle.cp_kernel.specs.KernelOf.{kernel_of}
use Rattle.cp_kernel.specs.Turns.{parts_of}
use Rattle.cp_kernel.proofs.Begins.{parts_same, stages_same}
use Rattle.cp_kernel.proofs.closing.close.Goals as goal

pub returns-then-not-kernel-clause-kernel : goal.returns-then-not-kernel-clause-kernel
returns-then-not-kernel-clause-kernel c =
    let k = c.args.kernel.now in
    λ i. record (kernel_of k) { stages = sym (stages_same k.stages.items (k.fresh c.if-not-kernel.true)) i }

pub returns-then-not-kernel-clause-parts : goal.returns-then-not-kernel-clause-parts
returns-then-not-kernel-clause-parts c = λ inputs.
    let k = c.args.kernel.now in
    parts_same (view.program c.args.program.now) (kernel_of k) k.stages.items refl (k.fresh c.if-not-kernel.true) (parts_of inputs 1 c.args.privates.now)
