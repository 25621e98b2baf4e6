use Rattle.std.proofs.Common.{rules, ◌≡◌, length, ap, ◌∙◌}
use Rattle.std.proofs.lemmas.Option.{IfSome_then}
use Rattle.cp_program.specs.View as view
use Rattle.cp_model_machine.specs.KernelSteps as plain
use Rattle.cp_model_machine.specs.Steps.{step_with}
use Rattle.cp_private.specs.FastStep.{left_by}
use Rattle.cp_private.specs.States as states
use Rattle.cp_kernel.specs.KernelOf.{kernel_of, turning}
use Rattle.cp_kernel.proofs.Parting.{lent}
use Rattle.cp_kernel.proofs.step.act_in_registers.Goals as goal

pub returns-clause-step : goal.returns-clause-step
returns-clause-step c =
    let program = view.program c.args.program.now in
    let k = c.args.kernel.now in
    let x = c.args.private.now in
    let ys = c.step_in_registers.new.shared in
    let value = c.deref_mut.ensures.value in
    let same = c.step_in_registers.ensures.kept.shared ∙ ap length value in
    let all : k.shared.len ≡ length k.shared.items = search rules in
    let after = lent ys k.shared.items k.shared.len same all in
    IfSome_then (left_by c.step_in_registers.result) c.step_in_registers.ensures.step (λ e made. λ clock input.
    let w = plain.outside clock (turning k x input) in
    (λ i. (states.join c.step_in_registers.new.private input (after i), e))
    ∙ (made w input ∙ (λ i. step_with program w (states.join x input (value i)))))

pub returns-clause-same : goal.returns-clause-same
returns-clause-same c =
    let k = c.args.kernel.now in
    let ys = c.step_in_registers.new.shared in
    let value = c.deref_mut.ensures.value in
    let same = c.step_in_registers.ensures.kept.shared ∙ ap length value in
    let all : k.shared.len ≡ length k.shared.items = search rules in
    let after = lent ys k.shared.items k.shared.len same all in
    λ none input.
    let stays = c.step_in_registers.ensures.same none in
    λ i. record {
      kernel = record (kernel_of k) { shared = (after ∙ (stays.1 ∙ value)) i };
      own = states.private_of (stays.0 i) input;
    }
