use Rattle.std.proofs.Common.{rules, ◌≡◌, length, ap, ◌∙◌}
use Rattle.cp_program.specs.View as view
use Rattle.cp_model_machine.specs.Steps.{step_with}
use Rattle.cp_private.specs.States as states
use Rattle.cp_kernel.proofs.Parting.{lent, outside_same}
use Rattle.cp_kernel.proofs.step.act.Goals as goal

pub returns-clause-step : goal.returns-clause-step
returns-clause-step c =
    let program = view.program c.args.program.now in
    let k = c.args.kernel.now in
    let x = c.args.private.now in
    let input = c.args.input.now in
    let ys = c.step.new.shared in
    let value = c.deref_mut.ensures.value in
    let same = c.step.ensures.kept.shared ∙ ap length value in
    let all : k.shared.len ≡ length k.shared.items = search rules in
    let after = lent ys k.shared.items k.shared.len same all in
    let w = outside_same k x input c.args.clock c.deref.result.now c.deref-2.result.now c.deref.ensures.value c.deref-2.ensures.value in
    (λ i. (states.join c.step.new.private input (after i), states.effect c.step.result))
    ∙ (c.step.ensures.step ∙ (λ i. step_with program (w i) (states.join x input (value i))))
