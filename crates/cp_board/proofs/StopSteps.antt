-- The steps on the stop word keep the rule. They check whether a stop was called, call it, and
-- learn that joined draws are sound.
use Rattle.std.proofs.Common.{◌≡◌, ℕ, ◌<◌, ◌≤◌, min, Bool, true, false, bit_or, List, length, set, slice_index, sym, refl, ap, ◌∙◌, subst, arith, length-set, get_or-set_same, get_or-set_other}
use Rattle.std.proofs.lemmas.List.{set-get_or}
use mathlib.Core.Logic.{dite}
use mathlib.Core.Option.{some, none}
use native.Mathlib.Decide.{ℕ_discrete}
use lib.ListN.{get_elem?}
use Rattle.atomic_table.specs.Table.{step, keeps, Allows}
use Rattle.atomic_table.proofs.Lists.{set_again}
use Rattle.cp_board.specs.declared.view.Shape.{Shape}
use Rattle.cp_board.specs.declared.view.View.{View}
use Rattle.cp_board.specs.Draws.{IsSound}
use Rattle.cp_board.specs.Stripes.{number_of, stripe_of, word_of}
use Rattle.cp_board.specs.Views.{with_seen_stop, with_called_stop}
use Rattle.cp_board.specs.Rule.{total, weight, marked_allowance, FitsWords, KeepsRule}
use Rattle.cp_board.specs.Steps.{SeatState, ReadsStop, CallsStop, LearnsDraws}
use Rattle.cp_board.proofs.Totals.{total_set, total_le}
use Rattle.cp_board.proofs.States.{BoardState, KeepsRuleWith, times_drawn, sound_of, few_of, total_same, each_set}

-- a load leaves the words as they are
loaded : (p : Shape) (s : BoardState) (i : ℕ) (views : List View) → KeepsRuleWith p s s.words views
    → KeepsRuleWith p s (set s.words i (slice_index s.words i)) views
loaded p s i views r = subst (λ (words : List ℕ). KeepsRuleWith p s words views) (sym (set-get_or s.words i 0)) r

-- a load that changes no view
unchanged : (p : Shape) (s : BoardState) (i id : ℕ) (v : View) → get_elem? s.views id ≡ some v → KeepsRule p s
    → KeepsRuleWith p s (set s.words i (slice_index s.words i)) (set s.views id v)
unchanged p s i id v at r =
    subst (KeepsRuleWith p s (set s.words i (slice_index s.words i))) (sym (set_again s.views id v at)) (loaded p s i s.views r)

-- a seat sees that the stop was called
sight_keeps : (p : Shape) (s : BoardState) → KeepsRule p s → (id : ℕ) (v : View) → get_elem? s.views id ≡ some v
    → slice_index s.words (word_of p.stripes) ≡ 1 → KeepsRuleWith p s s.words (set s.views id (with_seen_stop v))
unfolding times_drawn
sight_keeps p s r id v at on =
    let w : View = with_seen_stop v in
    let old = r.each id v at in
    let same : (f : View → ℕ) → f w ≡ f v → _ = λ f e. total_same f s.views id v w at e in
    record {
      width = r.width;
      stop = r.stop ∙ sym (ap (min 1) (same (λ z. weight z.called_stop) refl));
      allowance = same (λ z. z.allowance) refl ∙ r.allowance;
      gone = λ x below gone. same (times_drawn x) refl ∙ r.gone x below gone;
      left = λ x below is_left. same (times_drawn x) refl ∙ r.left x below is_left;
      beyond = λ x from. same (times_drawn x) refl ∙ r.beyond x from;
      small = λ j below. let marks = same (marked_allowance j) refl in let was = r.small j below in omega arith;
      each = each_set (FitsWords p s.words) s.views id w (record {
        of_board = old.of_board;
        idle = old.idle;
        reported = λ _. on;
        used_up = old.used_up;
      }) r.each;
    }

pub reads : (p : Shape) (slots id : ℕ) (me : SeatState)
    → Allows (KeepsRule p) slots id me (word_of p.stripes) (λ n. n) (ReadsStop (step slots (word_of p.stripes) 0 0 none) me)
reads p slots id me s r homes at fits =
    let v : View = me.0 in
    let n : ℕ = slice_index s.words (word_of p.stripes) in
    let stop = r.stop in
    dite (ℕ_discrete n 0)
    (λ off. (
      v,
      keeps,
      tt,
      unchanged p s (word_of p.stripes) id v at r,
      record { slots = refl; clear = λ _. (refl, not_seen off v.seen_stop refl); set = λ on. absurd (on off) },
    ))
    (λ ne. let on : n ≡ 1 = omega arith in (
      with_seen_stop v,
      keeps,
      tt,
      loaded p s (word_of p.stripes) (set s.views id (with_seen_stop v)) (sight_keeps p s r id v at on),
      record { slots = refl; clear = λ off. absurd (ne off); set = λ _. refl },
    ))
  where
    not_seen : slice_index s.words (word_of p.stripes) ≡ 0 → (b : Bool) → me.0.seen_stop ≡ b → me.0.seen_stop ≡ false
    not_seen off true e = let on = (r.each id me.0 at).reported e in absurd (omega arith)
    not_seen off false e = e

pub learns : (p : Shape) (slots id : ℕ) (me : SeatState) → me.0.shape ≡ p
    → Allows (KeepsRule p) slots id me (word_of p.stripes) (λ n. n) (LearnsDraws (step slots (word_of p.stripes) 0 0 none) me)
learns p slots id me of_board s r homes at fits =
    let v : View = me.0 in
    let mine = total_le (λ (u : View). u.allowance) s.views id v at in
    let all = r.allowance in (
      v,
      keeps,
      tt,
      unchanged p s (word_of p.stripes) id v at r,
      record {
        same = refl;
        allowance = omega arith;
        sound = subst (λ (q : Shape). IsSound q.numbers v.draws) (sym of_board) (sound_of p s r id v at);
        few = subst (λ (q : Shape). length v.draws ≤ q.numbers) (sym of_board) (few_of p s r id v at);
      },
    )

-- the stop word is set, and the view v of the seat id becomes that of a seat that has called the
-- stop
module _ (p : Shape) (s : BoardState) (r : KeepsRule p s) (some_stripe : 0 < p.stripes)
    (id : ℕ) (v : View) (at : get_elem? s.views id ≡ some v) (live : 0 < v.allowance) where
  abbrev stopped : List ℕ
  stopped = set s.words (word_of p.stripes) 1

  stop_set : slice_index stopped (word_of p.stripes) ≡ 1
  stop_set = let width = r.width in get_or-set_same s.words (word_of p.stripes) 1 0 (omega arith)

  ticket_same : (j : ℕ) → j < p.stripes → slice_index stopped (word_of j) ≡ slice_index s.words (word_of j)
  ticket_same j below = get_or-set_other s.words (word_of p.stripes) (word_of j) 1 0 (λ e. absurd (omega arith))

  word_same : (x : ℕ) → slice_index stopped (word_of (stripe_of p x)) ≡ slice_index s.words (word_of (stripe_of p x))
  word_same x = ticket_same (stripe_of p x) (omega arith)

  fits_stopped : (z : View) → FitsWords p s.words z → FitsWords p stopped z
  fits_stopped z fits = record {
    of_board = fits.of_board;
    idle = fits.idle;
    reported = λ _. stop_set;
    used_up = λ j below e. subst (λ (n : ℕ). p.numbers ≤ number_of p j n) (sym (ticket_same j below)) (fits.used_up j below e);
  }

  caller_fits : FitsWords p stopped (with_called_stop v)
  caller_fits = let old = fits_stopped v (r.each id v at) in record {
    of_board = old.of_board;
    idle = λ none. absurd (omega arith);
    reported = λ _. stop_set;
    used_up = old.used_up;
  }

  same : (f : View → ℕ) → f (with_called_stop v) ≡ f v → total f (set s.views id (with_called_stop v)) ≡ total f s.views
  same f e = total_same f s.views id v (with_called_stop v) at e

  some_call : 0 < total (λ (z : View). weight z.called_stop) (set s.views id (with_called_stop v))
  some_call =
      let changed = total_set (λ (z : View). weight z.called_stop) s.views id v (with_called_stop v) at in
      let own = total_le (λ (z : View). weight z.called_stop) s.views id v at in
      omega arith

  call_keeps : KeepsRuleWith p s stopped (set s.views id (with_called_stop v))
  unfolding times_drawn
  call_keeps = record {
    width = length-set s.words (word_of p.stripes) 1 ∙ r.width;
    stop = let some_one = some_call in stop_set ∙ (omega arith);
    allowance = same (λ z. z.allowance) refl ∙ r.allowance;
    gone = λ x below gone. let word = word_same x in same (times_drawn x) refl ∙ r.gone x below (omega arith);
    left = λ x below is_left. let word = word_same x in same (times_drawn x) refl ∙ r.left x below (omega arith);
    beyond = λ x from. same (times_drawn x) refl ∙ r.beyond x from;
    small = λ j below. let marks = same (marked_allowance j) refl in let was = r.small j below in let word = ticket_same j below in omega arith;
    each = each_set (FitsWords p stopped) s.views id (with_called_stop v) caller_fits (λ k z e. fits_stopped z (r.each k z e));
  }

-- a word of 0 or 1 with its lowest bit set
set_bit : (n : ℕ) → n ≤ 1 → bit_or n 1 ≡ 1
set_bit n most = dite (ℕ_discrete n 0)
    (λ off. ap (λ (k : ℕ). bit_or k 1) off)
    (λ ne. let on : n ≡ 1 = omega arith in ap (λ (k : ℕ). bit_or k 1) on)

pub calls : (p : Shape) (slots id : ℕ) (me : SeatState) → 0 < p.stripes → 0 < me.0.allowance
    → Allows (KeepsRule p) slots id me (word_of p.stripes) (λ n. bit_or n 1) (CallsStop (step slots (word_of p.stripes) 1 0 none) me)
calls p slots id me some_stripe live s r homes at fits =
    let v : View = me.0 in
    let n : ℕ = slice_index s.words (word_of p.stripes) in
    let stop = r.stop in
    let one = set_bit n (omega arith) in (
      with_called_stop v,
      keeps,
      tt,
      subst (λ (k : ℕ). KeepsRuleWith p s (set s.words (word_of p.stripes) k) (set s.views id (with_called_stop v))) (sym one)
          (call_keeps p s r some_stripe id v at live),
      record { slots = refl; view = refl },
    )
