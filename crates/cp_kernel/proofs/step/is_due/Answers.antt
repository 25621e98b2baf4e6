use Rattle.std.proofs.Common.{[], ap, sym, ◌∙◌}
use Rattle.cp_model_machine.specs.KernelSteps.{is_begun, stage_of}
use Rattle.cp_program.specs.View as view
use Rattle.cp_kernel.specs.Due.{is_kernel}
use Rattle.cp_kernel.specs.KernelOf.{kernel_of, turning}
use Rattle.cp_kernel.proofs.Stepping.{due_kernel, due_not_kernel}
use Rattle.cp_kernel.proofs.step.is_due.Goals as goal

pub returns-then-not-is_kernel-clause-due : goal.returns-then-not-is_kernel-clause-due
returns-then-not-is_kernel-clause-due c =
    λ input.
    let kind = c.is_kernel.ensures ∙ ap is_kernel (c.next_kind.ensures.kind input) in
    due_not_kernel (view.program c.args.program.now) (turning c.args.kernel.now c.args.private.now input) (sym kind ∙ c.if-not-is_kernel.true)

pub returns-clause-due : goal.returns-clause-due
returns-clause-due c =
    λ input.
    let k = c.args.kernel.now in
    let kind = c.is_kernel.ensures ∙ ap is_kernel (c.next_kind.ensures.kind input) in
    let begun = c.is_begun.ensures ∙ ap (λ p. is_begun (stage_of (kernel_of k).stages p)) (c.number.ensures.number input) in
    begun ∙ due_kernel (view.program c.args.program.now) (turning k c.args.private.now input) (sym kind ∙ c.if-not-is_kernel.false)

pub returns-clause-begun : goal.returns-clause-begun
returns-clause-begun c =
    λ due.
    let begun = c.is_begun.ensures ∙ ap (λ p. is_begun (stage_of (kernel_of c.args.kernel.now).stages p)) (c.number.ensures.number []) in
    sym begun ∙ due
