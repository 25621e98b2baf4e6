use Rattle.std.proofs.Common.{rules, ◌≡◌, ◌≢◌, ◌<◌, ◌≤◌, ◌+◌, length, map, below_more, get_or-set_other, get_or-set_same, length-set, slice_set, vec_capacity, vec_len, ap, ◌∙◌, arith}
use Rattle.std.specs.Prelude.{slice_index_or}
use Rattle.cp_private.specs.States as states
use Rattle.cp_private.specs.declared.kernel_view.Gate.{Gate}
use Rattle.cp_kernel.specs.KernelOf.{HasRoomToAsk, kernel_of}
use Rattle.cp_kernel.proofs.Changed.{same_at}
use Rattle.cp_kernel.proofs.Parting.{lent}
use Rattle.cp_kernel.proofs.kernel.Kernel.reserve_askers.Goals as goal

pub returns-in_err-reserve-clause-same : goal.returns-in_err-reserve-clause-same
returns-in_err-reserve-clause-same c =
    let k = kernel_of c.args.self.now in
    let gs = c.loop-gate.gate-items in
    let i = c.loop-gate.gate-index in
    let g = slice_index_or gs i c.gate-item.result in
    let more : Gate = record { holder = g.holder; askers = c.reserve.new.self } in
    let same = same_at states.gate gs i c.gate-item.result more (λ j. record { holder = states.holder g.holder; askers = c.reserve.ensures.items j }) in
    let set = slice_set gs i more in
    let long : length set ≡ length c.args.self.now.gates.items = length-set gs i more ∙ (c.loop-gate.auto.gate-items ∙ ap length c.deref_mut-gate-items.ensures.value) in
    let all : c.args.self.now.gates.len ≡ length c.args.self.now.gates.items = search rules in
    ap (λ xs. record k { gates = map states.gate xs }) (lent set c.args.self.now.gates.items c.args.self.now.gates.len long all)
    ∙ ap (λ xs. record k { gates = xs }) (same ∙ c.loop-gate.invariant.same)

pub loop-gate-preserved : goal.loop-gate-preserved
loop-gate-preserved c =
    let gs = c.loop-gate.gate-items in
    let i = c.loop-gate.gate-index in
    let g = slice_index_or gs i c.gate-item.result in
    let more : Gate = record { holder = g.holder; askers = c.reserve.new.self } in
    let same = same_at states.gate gs i c.gate-item.result more (λ j. record { holder = states.holder g.holder; askers = c.reserve.ensures.items j }) in
    let room : vec_len c.reserve.new.self + c.args.count ≤ vec_capacity c.reserve.new.self = search rules in
    record {
      same = same ∙ c.loop-gate.invariant.same;
      room = λ k d h.
          below_more (λ j. (e : Gate) → HasRoomToAsk c.args.count (slice_index_or (slice_set gs i more) j e)) i
          (λ j b e. let ne : j ≢ i = omega arith in rw get_or-set_other (c.loop-gate.invariant.room j e b))
          (λ e. let lt : i < length gs = omega (arith, c.loop-gate-test.true, c.loop-gate.auto.gate-items) in rw get_or-set_same room)
          k h d;
    }
