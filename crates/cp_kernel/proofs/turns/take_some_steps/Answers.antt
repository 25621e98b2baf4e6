use Rattle.std.proofs.Common.{◌≡◌, ◌+◌, subst, ap, sym, ◌∙◌, arith}
use Rattle.cp_model_machine.specs.KernelSteps as plain
use Rattle.cp_program.specs.View as view
use Rattle.cp_kernel.specs.KernelOf.{IsBegun}
use Rattle.cp_kernel.proofs.Asking.{less}
use Rattle.cp_kernel.proofs.turns.take_some_steps.Goals as goal

pub returns-then-left-count-clause-asking : goal.returns-then-left-count-clause-asking
returns-then-left-count-clause-asking c = λ n h. c.take_fast_steps-left.ensures.asking n (less c.args.kernel.now n h)

pub returns-then-left-count-clause-kept : goal.returns-then-left-count-clause-kept
returns-then-left-count-clause-kept c = λ n begun h. c.take_fast_steps-left.ensures.asking n h

pub kernel_step-requires-clause-due : goal.kernel_step-requires-clause-due
kernel_step-requires-clause-due c =
    let all : c.take_fast_steps-left.result ≡ c.args.count = omega (arith, c.take_fast_steps-left.ensures.few, c.if-left-count.false) in
    ap (plain.is_due (view.program c.args.program.now)) (c.take_fast_steps-left.ensures.same all c.args.input.now) ∙ c.requires.due

pub kernel_step-requires-clause-asking : goal.kernel_step-requires-clause-asking
kernel_step-requires-clause-asking c = c.take_fast_steps-left.ensures.asking 1 c.requires.asking

pub returns-clause-asking : goal.returns-clause-asking
returns-clause-asking c = λ n h. c.kernel_step.ensures.asking n (c.take_fast_steps-left.ensures.asking (n + 1) h)

pub returns-clause-kept : goal.returns-clause-kept
returns-clause-kept c =
    λ n begun h.
    let there = subst (IsBegun c.kernel_step.new.kernel) (sym c.take_fast_steps-left.ensures.number) begun in
    c.kernel_step.ensures.kept n there (c.take_fast_steps-left.ensures.asking n h)
