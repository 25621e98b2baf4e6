use Rattle.std.proofs.Common.{rules, ◌≡◌, ◌-◌, [], ℕ, length, vec_len, slice_get, ap, sym, ◌∙◌, arith}
use Rattle.cp_kernel.specs.KernelOf.{kernel_of, turning}
use Rattle.cp_model_machine.specs.KernelSteps.{Turning, kernel_step}
use Rattle.cp_model_machine.specs.PrivateStates.{PrivateState}
use Rattle.cp_law_cores.specs.Cores.{silent}
use Rattle.cp_program.specs.View as view
use Rattle.cp_search_states.proofs.Places.{same_stages}
use Rattle.cp_search_states.proofs.steps.make_step.Goals as goal

pub kernel_turn-requires-clause-among : goal.kernel_turn-requires-clause-among
kernel_turn-requires-clause-among c =
    let x1 = c.reserve.new.self in
    let k2 = c.reserve_bytes.new.self in
    let number : x1.number ≡ c.number-p.result = ap (λ (o : PrivateState). o.number) (c.reserve.ensures.content []) ∙ sym (c.number-p.ensures.number []) in
    let stages = same_stages c.args.kernel.now k2 (c.reserve_bytes.ensures.same ∙ c.reserve_askers.ensures.same) in
    let among = c.has_process.ensures c.if-not-has_process.false in
    let first = among.first in
    let last = among.last in
    record { first = omega (arith, first, number); last = omega (arith, last, number, stages) }

pub kernel_turn-requires-clause-transcript : goal.kernel_turn-requires-clause-transcript
kernel_turn-requires-clause-transcript c =
    let x1 = c.reserve.new.self in
    let k2 = c.reserve_bytes.new.self in
    let number : x1.number ≡ c.number-p.result = ap (λ (o : PrivateState). o.number) (c.reserve.ensures.content []) ∙ sym (c.number-p.ensures.number []) in
    let written = ap length (c.output.ensures []) in
    let all : length x1.output.items ≡ vec_len x1.output = search rules in
    λ v there.
    let room = c.in_ok-reserve_bytes.ensures.room v (ap (λ (q : ℕ). slice_get k2.transcripts.items (q - 1)) (sym number) ∙ there) in
    omega (arith, room, written, all)

pub returns : goal.returns
returns c = λ e.
    let program = view.program c.args.program.now in
    let input = c.args.input.now in
    let k = c.args.kernel.now in
    let x = c.args.private.now in
    let same : kernel_of c.reserve_bytes.new.self ≡ kernel_of k = c.reserve_bytes.ensures.same ∙ c.reserve_askers.ensures.same in
    let content = c.reserve.ensures.content input in
    let both : turning c.reserve_bytes.new.self c.reserve.new.self input ≡ turning k x input = λ j. record { kernel = same j; own = content j } in
    let made = c.kernel_turn.ensures.turn in
    record {
      kernel = made.kernel ∙ ap (λ (t : Turning). (kernel_step program 0 t).kernel) both;
      own = made.own ∙ ap (λ (t : Turning). silent (kernel_step program 0 t).own) both;
    }
