use Rattle.std.proofs.Common.{◌≡◌, ◌≢◌, ◌≤◌, ◌<◌, ◌+◌, ◌-◌, ℕ, suc, true, Some, length, slice_get, slice_set, refl, sym, ap, subst, ◌∙◌, arith, ⊎_elim}
use Rattle.cp_model_machine.specs.Ahead.{HasBegun}
use Rattle.cp_kernel.specs.KernelOf.{kernel_of}
use Rattle.cp_model_machine.specs.KernelSteps.{is_begun, stage_of}
use Rattle.cp_private.specs.declared.private.Private.{Private}
use Rattle.cp_rounds_handoff.specs.Tasks.{AreMade, AreTaken}
use Rattle.cp_rounds_handoff.proofs.Lists.{below_or, below_or_from, got_below, got_set}
use Rattle.cp_rounds.specs.Ahead.{turns_ahead}
use Rattle.cp_rounds.proofs.AheadPasses.{past_all, set_turns, set_turns_here}
use Rattle.cp_rounds.proofs.AheadTurns.{begun_is}
use Rattle.cp_model_machine.proofs.AheadTurns.{set_apart, set_length}
use Rattle.cp_rounds.proofs.run_ahead.take_all_back.Goals as goal

pub loop-i-init : goal.loop-i-init
loop-i-init g c = record {
  count = c.requires.count;
  turns = c.requires.turns;
  later = refl;
  left = c.requires.left;
  taken = λ j y below e. absurd (omega (arith, below));
  few = λ j below. absurd (omega (arith, below));
  begun = λ j below some. absurd (omega (arith, below));
}

pub loop-i-preserved : goal.loop-i-preserved
loop-i-preserved g c =
    let i = c.loop-i.i in
    let was = c.loop-i.invariant in
    let xs = c.args.round.now.start.value.items in
    let ys = c.loop-i.privates.items in
    let ns = c.loop-i.ahead.turns.items in
    let y = c.index_mut.result.now in
    let z = c.take_back.new.private in
    let n = c.take_back.result in
    let without_kernel = g.C.Course.without_kernel in
    let turned = g.C.Course.turned in
    let round_time = g.C.Course.round_time in
    let most = g.C.Course.most in
    let round = c.args.round.now.index in
    let below = c.loop-i-test.true in
    let len = c.len-i-end.ensures in
    let first = c.requires.count in
    let inside : i < length ys = omega (arith, below, len, was.count, first) in
    let within : i < length ns = omega (arith, inside, was.turns) in
    let back : (i + 1) - 1 ≡ i = omega arith in
    let next : i + 1 ≡ suc i = omega arith in
    let one : n + 1 ≡ suc n = omega arith in
    let at : turns_ahead (slice_set ns i n) i ≡ n = set_turns_here ns i n within in
    let taken : AreTaken (AreMade without_kernel turned round_time round (suc n)) (g.C.Course.input i) most xs (suc i) z =
    subst (λ (m : ℕ). AreTaken (AreMade without_kernel turned round_time round m) (g.C.Course.input i) most xs (suc i) z) one
    (subst (λ (p : ℕ). AreTaken (AreMade without_kernel turned round_time round (n + 1)) (g.C.Course.input i) most xs p z) next
    (subst (λ (j : ℕ). AreTaken (AreMade without_kernel turned round_time round (n + 1)) (g.C.Course.input j) most xs (i + 1) z) back c.take_back.ensures.taken)) in
    record {
      count = set_length ys i z ∙ was.count;
      turns = set_length ns i n ∙ (was.turns ∙ sym (set_length ys i z));
      later = was.later;
      left = λ j w from e rest. was.left j w (omega (arith, from)) (sym (set_apart ys i j z (λ f. omega (arith, f, from))) ∙ e) rest;
      taken = λ j w under e. ⊎_elim
          (λ (h : (j ≡ i) × (z ≡ w)).
          subst (λ (q : ℕ). AreTaken (AreMade without_kernel turned round_time round (suc (turns_ahead (slice_set ns i n) q))) (g.C.Course.input q) most xs (suc q) w) (sym h.0)
          (subst (λ (m : ℕ). AreTaken (AreMade without_kernel turned round_time round (suc m)) (g.C.Course.input i) most xs (suc i) w) (sym at)
          (subst (λ (v : Private). AreTaken (AreMade without_kernel turned round_time round (suc n)) (g.C.Course.input i) most xs (suc i) v) h.1 taken)))
          (λ (h : (j ≢ i) × (slice_get ys j ≡ Some w)).
          let apart = h.0 in
          subst (λ (m : ℕ). AreTaken (AreMade without_kernel turned round_time round (suc m)) (g.C.Course.input j) most xs (suc j) w) (sym (set_turns ns i j n apart))
          (was.taken j w (omega (arith, under, apart)) h.1))
          (got_set ys i j z w e);
      few = λ j under. ⊎_elim
          (λ (h : j < i). let few = was.few j h in let same = set_turns ns i j n (λ f. omega (arith, f, h)) in omega (arith, few, same))
          (λ (h : j ≡ i). let few = c.take_back.ensures.few in let same = ap (turns_ahead (slice_set ns i n)) h ∙ at in omega (arith, few, same))
          (below_or j i (omega (arith, under)));
      begun = λ j under some. ⊎_elim
          (λ (h : j < i). was.begun j h (λ none. some (set_turns ns i j n (λ f. omega (arith, f, h)) ∙ none)))
          (λ (h : j ≡ i).
          let more : n ≢ 0 = λ none. some (ap (turns_ahead (slice_set ns i n)) h ∙ (at ∙ none)) in
          subst (λ (q : ℕ). HasBegun q (kernel_of c.args.kernel.now)) (sym h)
          (begun_is c.args.kernel.now i
          (subst (λ (p : ℕ). is_begun (stage_of (kernel_of c.args.kernel.now).stages p) ≡ true) next (c.take_back.ensures.begun (omega (arith, more))))))
          (below_or j i (omega (arith, under)));
    }

pub returns-clause-back : goal.returns-clause-back
returns-clause-back g c =
    let was = c.loop-i.invariant in
    let ys = c.loop-i.privates.items in
    let ns = c.loop-i.ahead.turns.items in
    let past = c.loop-i-test.false in
    let len = c.len-i-end.ensures in
    let first = c.requires.count in
    let some = c.requires.some in
    let end : length ys ≤ c.loop-i.i = omega (arith, past, len, was.count, first) in
    record {
      count = was.count;
      turns = was.turns;
      taken = λ j y e. let below = got_below ys j y e in was.taken j y (omega (arith, below, end)) e;
      few = λ j. ⊎_elim (λ (h : j < c.loop-i.i). was.few j h)
          (λ (h : c.loop-i.i ≤ j). let none = past_all ns j (omega (arith, h, end, was.turns)) in omega (arith, none, some))
          (below_or_from j c.loop-i.i);
      begun = λ j more. ⊎_elim (λ (h : j < c.loop-i.i). was.begun j h more)
          (λ (h : c.loop-i.i ≤ j). absurd (more (past_all ns j (omega (arith, h, end, was.turns)))))
          (below_or_from j c.loop-i.i);
    }
