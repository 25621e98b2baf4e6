use Rattle.std.proofs.Common.{rules, ◌≡◌, ◌-◌, [], List, ℕ, length, vec_len, map, slice_get, subst, sym, ap, ◌∙◌, arith}
use Rattle.cp_kernel.specs.KernelOf.{Bytes, kernel_of}
use Rattle.cp_kernel.specs.Turns.{IsTurned}
use Rattle.cp_kernel.proofs.Asking.{room_kept}
use Rattle.cp_model_machine.specs.PrivateStates.{PrivateState}
use Rattle.cp_program.specs.View as view
use Rattle.cp_rounds_handoff.specs.Inputs.{input_at}
use Rattle.cp_rounds.proofs.Replays.{turn_with_room}
use Rattle.cp_rounds.proofs.Rooms.{same_stages}
use Rattle.cp_rounds.proofs.events.make_turn.Goals as goal

pub kernel_turn-requires : goal.kernel_turn-requires
kernel_turn-requires c =
    let p = c.args.p in
    let x1 = c.reserve.new.self in
    let k2 = c.reserve_bytes.new.self in
    let number : x1.number ≡ p = ap (λ (o : PrivateState). o.number) (c.reserve.ensures.content []) ∙ c.requires.number in
    let same : kernel_of k2 ≡ kernel_of c.args.kernel.now = c.reserve_bytes.ensures.same ∙ c.reserve_askers.ensures.same in
    let stages = same_stages c.args.kernel.now k2 same in
    let first = c.requires.among.first in
    let last = c.requires.among.last in
    let written = ap length (c.output.ensures []) in
    let steps = c.steps.ensures.steps in
    let all : length x1.output.items ≡ vec_len x1.output = search rules in
    record {
      among = record { first = omega (arith, first, number); last = omega (arith, last, number, stages) };
      asking = room_kept c.reserve_askers.new.self k2 1 c.reserve_bytes.ensures.gates c.in_ok-reserve_askers.ensures.room;
      output = c.in_ok-reserve.ensures.room;
      transcript = λ v there.
          let room = c.in_ok-reserve_bytes.ensures.room v (ap (λ (q : ℕ). slice_get k2.transcripts.items (q - 1)) (sym number) ∙ there) in
          omega (arith, room, written, steps, all);
    }

pub returns : goal.returns
returns c =
    let program = view.program c.args.config.now.program in
    let now = c.args.round_time.clock in
    let t = c.args.turn.steps in
    let x1 = c.reserve.new.self in
    let k2 = c.reserve_bytes.new.self in
    let input = input_at c.args.config.now.inputs.items (c.args.p - 1) in
    let number : x1.number ≡ c.args.private.now.number = ap (λ (o : PrivateState). o.number) (c.reserve.ensures.content []) in
    turn_with_room program now t c.args.p c.args.kernel.now k2 c.kernel_turn.new.kernel c.args.private.now x1 c.kernel_turn.new.private input
    (c.reserve_bytes.ensures.same ∙ c.reserve_askers.ensures.same)
    (c.reserve_bytes.ensures.transcripts ∙ ap (λ v. map (λ (w : Bytes). w.items) v.items) c.reserve_askers.ensures.transcripts)
    (c.reserve.ensures.content input) (number ∙ c.requires.number) (c.kernel_turn.ensures.number ∙ number)
    (subst (λ (l : List ℕ). IsTurned program now t k2 c.kernel_turn.new.kernel x1 c.kernel_turn.new.private l) c.input-input.ensures c.kernel_turn.ensures.turn)
