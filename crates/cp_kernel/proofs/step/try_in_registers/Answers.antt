use Rattle.std.proofs.Common.{◌≡◌, length, ap, sym, ◌∙◌}
use Rattle.cp_program.specs.View as view
use Rattle.cp_model_machine.specs.Calling.{gate_effect}
use Rattle.cp_model_machine.specs.KernelSteps as plain
use Rattle.cp_model_machine.specs.PrivateStates.{Leaves, NoEffect}
use Rattle.cp_private.proofs.Parted.{parted_as, step_due}
use Rattle.cp_private.specs.States as states
use Rattle.cp_kernel.specs.KernelOf.{kernel_of, turning}
use Rattle.cp_kernel.proofs.Asking.{room_kept}
use Rattle.cp_kernel.proofs.Parting.{kernel_same}
use Rattle.cp_kernel.proofs.Registers.{due_inside}
use Rattle.cp_kernel.proofs.step.try_in_registers.Goals as goal

pub returns-in-Made-clause-step : goal.returns-in-Made-clause-step
returns-in-Made-clause-step c =
    let program = view.program c.args.program.now in
    let k = c.args.kernel.now in
    let x = c.args.private.now in
    let y = c.act_in_registers.new.private in
    let mid = c.act_in_registers.new.kernel in
    let own = length x.memory.words.items in
    let same : kernel_of mid ≡ record (kernel_of k) { shared = mid.shared.items } =
    kernel_same k mid c.act_in_registers.ensures.gates c.act_in_registers.ensures.stages in
    λ clock input.
    let due = step_due program clock (turning k x input)
    (due_inside program (turning k x input) c.requires.running c.requires.begun c.requires.held) in
    let made = ap (plain.part_words own (turning k x input)) (c.in-Made.ensures.step clock input) in
    (λ i. record { kernel = same i; own = states.private_of y input })
    ∙ (sym (parted_as (kernel_of k) x y input mid.shared.items NoEffect c.act_in_registers.ensures.own) ∙ (made ∙ sym due))

pub returns-in-Returned-clause-step : goal.returns-in-Returned-clause-step
returns-in-Returned-clause-step c =
    let program = view.program c.args.program.now in
    let k = c.args.kernel.now in
    let x = c.args.private.now in
    let y = c.act_in_registers.new.private in
    let mid = c.act_in_registers.new.kernel in
    let own = length x.memory.words.items in
    let e = gate_effect c.in-Returned.gate Leaves in
    let same : kernel_of mid ≡ record (kernel_of k) { shared = mid.shared.items } =
    kernel_same k mid c.act_in_registers.ensures.gates c.act_in_registers.ensures.stages in
    let applied = c.leave.ensures.step own x.number ∙ ap (plain.apply_effect own x.number e) same in
    λ clock input.
    let due = step_due program clock (turning k x input)
    (due_inside program (turning k x input) c.requires.running c.requires.begun c.requires.held) in
    let made = ap (plain.part_words own (turning k x input)) (c.in-Returned.ensures.step clock input) in
    (λ i. record { kernel = applied i; own = states.private_of y input })
    ∙ (sym (parted_as (kernel_of k) x y input mid.shared.items e c.act_in_registers.ensures.own) ∙ (made ∙ sym due))

pub returns-in-Returned-clause-asking : goal.returns-in-Returned-clause-asking
returns-in-Returned-clause-asking c =
    λ n h. c.leave.ensures.room n (room_kept c.args.kernel.now c.act_in_registers.new.kernel n c.act_in_registers.ensures.gates h)
