use Rattle.std.proofs.Common.{◌≡◌, ◌+◌, [], length, subst, sym, ap, ◌∙◌, arith}
use Rattle.std.specs.Prelude.{Vec}
use Rattle.std.specs.Global.{Global}
use Rattle.cp_private.specs.declared.kernel_view.SchedulingState.{SchedulingState}
use Rattle.cp_program.specs.View as view
use Rattle.cp_model_machine.specs.KernelSteps as plain
use Rattle.cp_private.specs.States as states
use Rattle.cp_kernel.specs.KernelOf.{IsAmong, IsBegun, kernel_of, turning}
use Rattle.cp_kernel.proofs.Asking.{room_kept}
use Rattle.cp_private.proofs.Parted.{parted_as, step_due}
use Rattle.cp_kernel.proofs.Parting.{kernel_same}
use Rattle.cp_kernel.proofs.step.kernel_step.Goals as goal

pub returns-clause-step : goal.returns-clause-step
returns-clause-step c =
    let program = view.program c.args.program.now in
    let k = c.args.kernel.now in
    let x = c.args.private.now in
    let y = c.act-effect.new.private in
    let mid = c.act-effect.new.kernel in
    let input = c.args.input.now in
    let own = length x.memory.words.items in
    let e = states.effect c.act-effect.result in
    let due = step_due program c.args.clock (turning k x input) c.requires.due in
    let made = ap (plain.part_words own (turning k x input)) c.act-effect.ensures.step in
    let same : kernel_of mid ≡ record (kernel_of k) { shared = mid.shared.items } = kernel_same k mid c.act-effect.ensures.gates c.act-effect.ensures.stages in
    let counted = c.words-own.ensures.words input in
    let numbered = c.number-p.ensures.number input in
    let applied = c.apply.ensures.step ∙ ((λ i. plain.apply_effect (counted i) (numbered i) e (same i))) in
    (λ i. record { kernel = applied i; own = states.private_of y input })
    ∙ (sym (parted_as (kernel_of k) x y input mid.shared.items e c.act-effect.ensures.own) ∙ (made ∙ sym due))

pub returns-clause-kept : goal.returns-clause-kept
returns-clause-kept c =
    λ n begun h.
    let mid = c.act-effect.new.kernel in
    let numbered = c.number-p.ensures.number [] in
    let stages = ap (λ (s : Vec SchedulingState Global). length s.items) c.act-effect.ensures.stages in
    let among : IsAmong mid c.number-p.result = record {
      first = omega (arith, numbered, c.requires.among.first);
      last = omega (arith, numbered, stages, c.requires.among.last);
    } in
    let there = subst (λ q. IsBegun c.apply.new.self q) (sym numbered) begun in
    c.apply.ensures.kept among n there (room_kept c.args.kernel.now mid n c.act-effect.ensures.gates h)

pub returns-clause-asking : goal.returns-clause-asking
returns-clause-asking c =
    λ n h. c.apply.ensures.room n (room_kept c.args.kernel.now c.act-effect.new.kernel (n + 1) c.act-effect.ensures.gates h)
