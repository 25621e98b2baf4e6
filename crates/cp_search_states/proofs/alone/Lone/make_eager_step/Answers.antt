use Rattle.std.proofs.lemmas.Result.{IfOk-weaker}
use Rattle.cp_program.specs.View as view
use Rattle.cp_private.specs.States.{private_of}
use Rattle.cp_kernel.specs.KernelOf.{kernel_of}
use Rattle.cp_search_states.proofs.Moving.{went_by_kernel, went_privately}
use Rattle.cp_search_states.proofs.alone.Lone.make_eager_step.Goals as goal

pub returns-in_ok-make_turn-in-Private : goal.returns-in_ok-make_turn-in-Private
returns-in_ok-make_turn-in-Private c = λ e.
    let old = c.args.self.now in
    let input = c.args.input.now in
    went_privately (view.program c.args.program.now) c.args.turn.steps (kernel_of old.kernel) (private_of old.private input) (private_of c.make_turn.new.private input)
    c.settling.ensures.turn c.requires.timeless c.requires.eager c.in_ok-make_turn-in-Private.ensures

pub returns-in-Kernel : goal.returns-in-Kernel
returns-in-Kernel c =
    let input = c.args.input.now in
    IfOk-weaker c.step.result _ _
    (λ done calm e.
    went_by_kernel (view.program c.args.program.now) c.args.self.now c.step.new.self input (calm e)
    c.settling.ensures.kernel c.settling.ensures.step c.searching.ensures.nobody c.requires.eager (c.in-Kernel.ensures.kind input))
    c.step.ensures
