use Rattle.std.proofs.Common.{[], refl, ap, sym, ◌∙◌}
use Rattle.cp_private.specs.States as states
use Rattle.cp_model_machine.specs.KernelSteps.{stage_of}
use Rattle.cp_model_machine.specs.Machines as plain
use Rattle.cp_model_machine.specs.PrivateStates.{PrivateState}
use Rattle.cp_program.specs.View as view
use Rattle.cp_kernel.specs.KernelOf.{kernel_of}
use Rattle.cp_kernel.proofs.Begins.{begun_number, not_fresh}
use Rattle.cp_kernel.proofs.closing.begin.Goals as goal

pub returns-in-Fresh-clause-begun : goal.returns-in-Fresh-clause-begun
returns-in-Fresh-clause-begun c =
    λ input.
    let program = view.program c.args.program.now in
    let k = kernel_of c.args.kernel.now in
    let o = states.private_of c.args.private.now input in
    let fresh = sym (ap states.stage c.in-Fresh.is) ∙ (c.stage.ensures ∙ ap (stage_of k.stages) (c.number.ensures.number input)) in
    c.begin.ensures.content input k (sym c.deref.ensures.value) ∙ ap (plain.begin_if program k o) fresh

pub returns-in-Fresh-clause-number : goal.returns-in-Fresh-clause-number
returns-in-Fresh-clause-number c =
    let program = view.program c.args.program.now in
    let k = kernel_of c.args.kernel.now in
    ap (λ (o : PrivateState). o.number) (c.begin.ensures.content [] k (sym c.deref.ensures.value)) ∙ begun_number program k (states.private_of c.args.private.now [])

pub returns-in_default : goal.returns-in_default
returns-in_default c = record {
  begun = λ input.
      let program = view.program c.args.program.now in
      let k = kernel_of c.args.kernel.now in
      let o = states.private_of c.args.private.now input in
      let stage = c.stage.ensures ∙ ap (stage_of k.stages) (c.number.ensures.number input) in
      sym (ap (plain.begin_if program k o) (sym stage) ∙ not_fresh program k o c.stage.result c.in_default.not-Fresh);
  number = refl;
  output = refl;
}
