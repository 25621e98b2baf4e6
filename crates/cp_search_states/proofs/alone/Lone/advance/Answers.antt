use Rattle.std.proofs.Common.{subst}
use Rattle.cp_model_machine.specs.KernelSteps.{Kernel}
use Rattle.cp_program.specs.View as view
use Rattle.cp_private.specs.States.{private_of}
use Rattle.cp_kernel.specs.KernelOf.{kernel_of}
use Rattle.cp_law_exploring.specs.Exploring.{count}
use Rattle.cp_search_states.specs.Alone.{WakesNobody}
use Rattle.cp_search_states.proofs.Moving.{moved}
use Rattle.cp_search_states.proofs.alone.Lone.advance.Goals as goal

pub returns : goal.returns
returns c = λ e.
    let program = view.program c.args.program.now in
    let input = c.args.input.now in
    let old = c.args.self.now in
    let new = c.run.new.self in
    let wakes = subst (λ (z : Kernel). WakesNobody (count program) z (kernel_of new.kernel)) c.in_ok-before.ensures (c.wakes_nobody.ensures e) in
    moved program (kernel_of old.kernel) (kernel_of new.kernel) (private_of old.private input) (private_of new.private input)
    c.settling.ensures.none (c.in_ok-run.ensures c.if-not-branch.false) wakes (c.has_number.ensures c.if-not-has_number.false input)
