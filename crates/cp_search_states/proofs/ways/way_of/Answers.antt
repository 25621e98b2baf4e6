use Rattle.std.proofs.Common.{ap, sym, ◌∙◌}
use Rattle.cp_private.specs.States.{private_of}
use Rattle.cp_program.specs.View as view
use Rattle.std.specs.Prelude.{slice_get}
use Rattle.cp_model_machine.specs.KernelSteps.{is_begun, stage_of}
use Rattle.cp_law_search.specs.Calls.{is_late_at}
use Rattle.cp_kernel.specs.KernelOf.{kernel_of}
use Rattle.cp_search_states.proofs.Places.{eager_there, idle_before, idle_stopped, late_there}
use Rattle.cp_search_states.proofs.ways.way_of.Goals as goal

pub returns-then-not-is_running : goal.returns-then-not-is_running
returns-then-not-is_running c = λ input.
    sym (idle_stopped (view.program c.args.program.now) (kernel_of c.args.kernel.now) (private_of c.args.private.now input)
    (sym (c.is_running.ensures input) ∙ c.if-not-is_running.true))

pub returns-then-not-is_begun : goal.returns-then-not-is_begun
returns-then-not-is_begun c = λ input.
    let program = view.program c.args.program.now in
    let k = kernel_of c.args.kernel.now in
    let running = sym (c.is_running.ensures input) ∙ c.if-not-is_running.false in
    let begun = sym (c.is_begun.ensures ∙ ap (λ n. is_begun (stage_of k.stages n)) (c.number.ensures.number input)) ∙ c.if-not-is_begun.true in
    sym (idle_before program k (private_of c.args.private.now input) running begun)

pub returns-then-is_late_at : goal.returns-then-is_late_at
returns-then-is_late_at c = λ input.
    let program = view.program c.args.program.now in
    let k = kernel_of c.args.kernel.now in
    let running = sym (c.is_running.ensures input) ∙ c.if-not-is_running.false in
    let begun = sym (c.is_begun.ensures ∙ ap (λ n. is_begun (stage_of k.stages n)) (c.number.ensures.number input)) ∙ c.if-not-is_begun.false in
    let late = sym (c.is_late_at.ensures ∙ ap (λ n. is_late_at (slice_get program.operations n)) (c.counter.ensures input)) ∙ c.if-is_late_at.true in
    sym (late_there program k (private_of c.args.private.now input) running begun late)

pub returns-else-is_late_at : goal.returns-else-is_late_at
returns-else-is_late_at c = λ input.
    let program = view.program c.args.program.now in
    let k = kernel_of c.args.kernel.now in
    let running = sym (c.is_running.ensures input) ∙ c.if-not-is_running.false in
    let begun = sym (c.is_begun.ensures ∙ ap (λ n. is_begun (stage_of k.stages n)) (c.number.ensures.number input)) ∙ c.if-not-is_begun.false in
    let late = sym (c.is_late_at.ensures ∙ ap (λ n. is_late_at (slice_get program.operations n)) (c.counter.ensures input)) ∙ c.if-is_late_at.false in
    sym (eager_there program k (private_of c.args.private.now input) running begun late)
