use Rattle.std.proofs.Common.{◌≡◌, ◌-◌, ◌≤◌, slice_set, map, length, true, false, ap, sym, ◌∙◌, arith}
use Rattle.std.proofs.lemmas.List.{length-map}
use Rattle.cp_model_machine.specs.KernelSteps as plain
use Rattle.cp_private.specs.States as states
use Rattle.cp_kernel.proofs.Places.{asking_set}
use Rattle.cp_kernel.proofs.Asking.{less, room_kept}
use Rattle.cp_kernel.proofs.kernel.Kernel.enter.Goals as goal

pub returns-in-Process-clause-room : goal.returns-in-Process-clause-room
returns-in-Process-clause-room c =
    λ n h. room_kept c.ask.new.self c.set_stage.new.self n c.set_stage.ensures.gates (c.ask.ensures.room n h)

pub returns-in-Process-clause-kept : goal.returns-in-Process-clause-kept
returns-in-Process-clause-kept c =
    λ A n begun h.
    let before = map states.stage c.args.self.now.stages.items in
    let p = c.args.p in
    let asking = plain.Asking c.args.m in
    let last : p ≤ length before = omega (arith, A.last, length-map c.args.self.now.stages.items states.stage) in
    let stages = ap (λ (k : plain.Kernel). k.stages) c.set_stage.ensures.step ∙ ap (λ (k : plain.Kernel). slice_set k.stages (p - 1) asking) c.ask.ensures.step in
    let no : false ≡ true = sym (asking_set before p c.args.m A.first last) ∙ (sym (ap (λ gs. plain.is_begun (plain.stage_of gs p)) stages) ∙ begun) in
    absurd (cc)

pub returns-in-Unset-clause-room : goal.returns-in-Unset-clause-room
returns-in-Unset-clause-room c = λ n h. c.hold.ensures.room n (less c.args.self.now n h)

pub returns-in-Unset-clause-kept : goal.returns-in-Unset-clause-kept
returns-in-Unset-clause-kept c = λ A n begun h. c.hold.ensures.room n h

pub returns-in-Free-clause-room : goal.returns-in-Free-clause-room
returns-in-Free-clause-room c = λ n h. c.hold-in-Free.ensures.room n (less c.args.self.now n h)

pub returns-in-Free-clause-kept : goal.returns-in-Free-clause-kept
returns-in-Free-clause-kept c = λ A n begun h. c.hold-in-Free.ensures.room n h
