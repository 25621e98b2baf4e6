use Rattle.std.proofs.Common.{◌≡◌, ◌≢◌, ◌+◌, ◌-◌, ◌*◌, ℕ, suc, false, Some, slice_get, length, vec_len, sym, ap, ◌∙◌, subst, arith, length-set, ⊎_elim}
use Rattle.cp_kernel.specs.KernelOf.{HasRoomForAskers, HasRoomForBytes}
use Rattle.cp_kernel.proofs.Asking.{room_kept}
use Rattle.cp_private.specs.declared.private.Private.{Private}
use Rattle.cp_rounds_handoff.specs.Tasks.{HasRoom}
use Rattle.cp_rounds_handoff.proofs.Lists.{got_below, got_or, got_set}
use Rattle.cp_rounds.proofs.Rooms.{same_more, same_stages}
use Rattle.cp_rounds.proofs.round.reserve_room.Goals as goal

pub returns-in_err-reserve_output-clause-same : goal.returns-in_err-reserve_output-clause-same
returns-in_err-reserve_output-clause-same c =
    let i = c.loop-i.i in
    let xs = c.loop-i.privates.items in
    let x = c.private_mut-private.result.now in
    let y = c.reserve_output.new.private in
    let made = c.reserve_output.ensures in
    let below = c.loop-i-test.true in
    let here : slice_get xs i ≡ Some x = got_or xs i c.index_mut.result.now (omega (arith, below)) ∙ ap (λ (z : Private). Some z) (sym (c.private_mut-private.ensures.value ∙ c.index_mut.ensures.value)) in
    same_more c.args.privates.now.items c.args.kernel.now xs c.loop-i.kernel i x y c.reserve_output.new.kernel here made.private made.kernel made.transcripts
    c.loop-i.invariant.same

pub loop-i-preserved : goal.loop-i-preserved
loop-i-preserved c =
    let i = c.loop-i.i in
    let xs = c.loop-i.privates.items in
    let x = c.private_mut-private.result.now in
    let y = c.reserve_output.new.private in
    let k2 = c.reserve_output.new.kernel in
    let t = c.args.turn.steps in
    let n = c.args.rounds in
    let made = c.reserve_output.ensures in
    let was = c.loop-i.invariant in
    let below = c.loop-i-test.true in
    let back : (i + 1) - 1 ≡ i = omega arith in
    let next : suc i ≡ i + 1 = omega arith in
    let here : slice_get xs i ≡ Some x = got_or xs i c.index_mut.result.now (omega (arith, below)) ∙ ap (λ (z : Private). Some z) (sym (c.private_mut-private.ensures.value ∙ c.index_mut.ensures.value)) in
    record {
      same = same_more c.args.privates.now.items c.args.kernel.now xs c.loop-i.kernel i x y k2 here made.private made.kernel made.transcripts was.same;
      asking = subst (λ (l : ℕ). HasRoomForAskers k2 (n * l)) (sym (length-set xs i y)) (room_kept c.loop-i.kernel k2 (n * length xs) made.gates was.asking);
      free = λ j z b e. ⊎_elim
          (λ (h : (j ≡ i) × (y ≡ z)). subst (λ (w : Private). HasRoom (11 * t) false w) h.1 c.in_ok-reserve_output.ensures.free)
          (λ (h : (j ≢ i) × (slice_get xs j ≡ Some z)). let apart = h.0 in was.free j z (omega (arith, b, apart)) h.1)
          (got_set xs i j y z e);
      room = λ j z b e. ⊎_elim
          (λ (h : (j ≡ i) × (y ≡ z)).
          subst (λ (p : ℕ). HasRoomForBytes k2 p (vec_len z.output + n * (11 * t + 11 * t))) (sym (ap suc h.0 ∙ next))
          (subst (λ (w : Private). HasRoomForBytes k2 (i + 1) (vec_len w.output + n * (11 * t + 11 * t))) h.1 c.in_ok-reserve_output.ensures.room))
          (λ (h : (j ≢ i) × (slice_get xs j ≡ Some z)).
          let apart = h.0 in
          made.others (suc j) (vec_len z.output + n * (11 * t + 11 * t)) (λ f. apart (omega (arith, f))) (was.room j z (omega (arith, b, apart)) h.1))
          (got_set xs i j y z e);
    }

pub returns-clause-free : goal.returns-clause-free
returns-clause-free c = λ j x e.
    let past = c.loop-i-test.false in
    let within = got_below c.loop-i.privates.items j x e in
    let count = c.loop-i.invariant.same.count in
    let len = c.len-i-end.ensures in
    c.loop-i.invariant.free j x (omega (arith, past, within, count, len)) e

pub returns-clause-ready : goal.returns-clause-ready
returns-clause-ready c =
    let past = c.loop-i-test.false in
    let was = c.loop-i.invariant in
    let count = was.same.count in
    let len = c.len-i-end.ensures in
    let stages = c.requires.stages in
    let kept = same_stages c.args.kernel.now c.loop-i.kernel was.same.kernel in
    record {
      stages = omega (arith, stages, kept, count);
      asking = was.asking;
      transcripts = λ j x e.
          let within = got_below c.loop-i.privates.items j x e in
          was.room j x (omega (arith, past, within, count, len)) e;
    }
