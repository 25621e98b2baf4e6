use Rattle.std.proofs.Common.{◌≡◌, ◌≢◌, ◌≤◌, ◌+◌, ◌-◌, suc, ℕ, List, Some, slice_get, ap, sym, subst, ◌∙◌, arith, ⊎_elim}
use Rattle.cp_private.specs.Resting.{is_idle}
use Rattle.cp_private.specs.declared.private.Private.{Private}
use Rattle.cp_rounds_handoff.proofs.Lists.{got_or, got_set}
use Rattle.cp_model_machine.proofs.AheadTurns.{set_apart, set_length}
use Rattle.cp_rounds_handoff.proofs.handoff.HandoffQueue.put_all.Goals as goal

pub put-place-requires-clause-at : goal.put-place-requires-clause-at
put-place-requires-clause-at g c =
    let i = c.loop-i.i in
    let xs = c.loop-i.privates.items in
    let x = c.index_mut.result.now in
    let below = c.loop-i-test.true in
    let len = c.len-i-end.ensures in
    let count = c.loop-i.invariant.count in
    let back : i + 1 - 1 ≡ i = omega arith in
    let none : i ≤ i = omega arith in
    let here : slice_get xs i ≡ Some x = got_or xs i x (omega (arith, below, len, count)) ∙ ap (λ (z : Private). Some z) (sym c.index_mut.ensures.value) in
    subst (λ (l : List Private). slice_get l (i + 1 - 1) ≡ Some x) (sym c.requires.start)
    (ap (λ (j : ℕ). slice_get c.args.privates.now.items j) back ∙ c.loop-i.invariant.rest i x none here)

pub put-place-requires-clause-number : goal.put-place-requires-clause-number
put-place-requires-clause-number g c =
    let i = c.loop-i.i in
    let x = c.index_mut.result.now in
    let back : i ≡ i + 1 - 1 = omega arith in
    let next : suc i ≡ i + 1 = omega arith in
    c.args.round.now.numbers i x (ap (λ (j : ℕ). slice_get c.args.round.now.start.value.items j) back ∙ put-place-requires-clause-at g c) ∙ next

pub put-place-requires-clause-room : goal.put-place-requires-clause-room
put-place-requires-clause-room g c =
    c.args.round.now.free (c.loop-i.i + 1 - 1) c.index_mut.result.now (put-place-requires-clause-at g c)

pub loop-i-preserved : goal.loop-i-preserved
loop-i-preserved g c =
    let i = c.loop-i.i in
    let xs = c.loop-i.privates.items in
    let x = c.index_mut.result.now in
    let spare = c.put-place.new.private in
    let wakes = c.args.round.now.round_time.wakes in
    let was = c.loop-i.invariant in
    let below = c.loop-i-test.true in
    let len = c.len-i-end.ensures in
    let count = was.count in
    let none : i ≤ i = omega arith in
    let here : slice_get xs i ≡ Some x = got_or xs i x (omega (arith, below, len, count)) ∙ ap (λ (z : Private). Some z) (sym c.index_mut.ensures.value) in
    record {
      count = set_length xs i spare ∙ was.count;
      left = λ j y before e is. ⊎_elim
          (λ (h : (j ≡ i) × (spare ≡ y)).
          let same : spare ≡ x = c.put-place.ensures.left (ap (λ (z : Private). is_idle wakes z) h.1 ∙ is) in
          ap (λ (k : ℕ). slice_get c.args.privates.now.items k) h.0 ∙ (was.rest i x none here ∙ ap (λ (z : Private). Some z) (sym same ∙ h.1)))
          (λ (h : (j ≢ i) × (slice_get xs j ≡ Some y)). let apart = h.0 in was.left j y (omega (arith, before, apart)) h.1 is)
          (got_set xs i j spare y e);
      rest = λ j y from e. was.rest j y (omega (arith, from)) (sym (set_apart xs i j spare (λ f. omega (arith, f, from))) ∙ e);
    }
