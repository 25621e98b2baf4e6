use Rattle.std.proofs.Common.{refl, subst, sym}
use Rattle.cp_program.specs.View as view
use Rattle.cp_kernel.specs.Fresh.{HasNoFresh}
use Rattle.cp_kernel.specs.KernelOf.{kernel_of}
use Rattle.cp_kernel.specs.Turns.{parts_of}
use Rattle.cp_kernel.proofs.Begins.{parts_same, stages_same}
use Rattle.cp_kernel.proofs.closing.close_started.Goals as goal

pub returns-then-not-has_fresh-clause-kernel : goal.returns-then-not-has_fresh-clause-kernel
returns-then-not-has_fresh-clause-kernel c =
    let k = c.args.kernel.now in
    let none = subst HasNoFresh c.deref.ensures.value (c.has_fresh.ensures c.if-not-has_fresh.true) in
    λ i. record (kernel_of k) { stages = sym (stages_same k.stages.items none) i }

pub returns-then-not-has_fresh-clause-parts : goal.returns-then-not-has_fresh-clause-parts
returns-then-not-has_fresh-clause-parts c = λ inputs.
    let k = c.args.kernel.now in
    let none = subst HasNoFresh c.deref.ensures.value (c.has_fresh.ensures c.if-not-has_fresh.true) in
    parts_same (view.program c.args.program.now) (kernel_of k) k.stages.items refl none (parts_of inputs 1 c.args.privates.now)
