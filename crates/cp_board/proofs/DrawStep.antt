-- The `fetch_add` on the word of a stripe keeps the rule: its ticket is a new draw, or the stripe is used up.
use Rattle.std.proofs.Common.{◌≡◌, ◌≢◌, ℕ, ◌+◌, ◌%◌, ◌^◌, ◌<◌, ◌≤◌, min, Bool, true, false, cond, if◌then◌else◌, List, [], ◌∷◌, length, set, slice_index, sym, refl, ap, ◌∙◌, subst, arith, length-set, get_or-set_same, get_or-set_other, lt_of_not-le}
use mathlib.Core.Logic.{dite}
use mathlib.Core.Option.{some, none}
use native.Mathlib.Decide.{ℕ_discrete, dec_le}
use lib.ListN.{get_elem?}
use Rattle.atomic_table.specs.Table.{step, keeps, Allows}
use Rattle.atomic_table.proofs.Lists.{set_here}
use Rattle.cp_board.specs.declared.view.Shape.{Shape}
use Rattle.cp_board.specs.declared.view.TheConstants.{FULL_ALLOWANCE, MAX_TICKETS}
use Rattle.cp_board.specs.declared.view.View.{View}
use Rattle.cp_board.specs.Draws.{IsSound, times}
use Rattle.cp_board.specs.Stripes.{number_of, stripe_at, stripe_of, ticket_of, word_of}
use Rattle.cp_board.specs.Views.{is_used_up, with_draw, with_used_up}
use Rattle.cp_board.specs.Rule.{total, weight, marked_allowance, FitsWords, KeepsRule}
use Rattle.cp_board.specs.Steps.{SeatState, DrawsTicket}
use Rattle.cp_board.proofs.Totals.{total_set}
use Rattle.cp_board.proofs.DrawLists.{times-append, times_one, times_other}
use Rattle.cp_board.proofs.StripeNumbers.{number_of-parts, stripe_of-number_of, ticket_of-number_of, number_of-le, ticket_le}
use Rattle.cp_board.proofs.States.{BoardState, KeepsRuleWith, times_drawn, sound_of, few_of, total_same, each_set, length-at}

-- what holds of a seat still holds after ticket words have grown
fits_grown : (p : Shape) (ws us : List ℕ) (v : View) → slice_index us (word_of p.stripes) ≡ slice_index ws (word_of p.stripes)
    → ((j : ℕ) → j < p.stripes → slice_index ws (word_of j) ≤ slice_index us (word_of j)) → FitsWords p ws v → FitsWords p us v
fits_grown p ws us v same more fits = record {
  of_board = fits.of_board;
  idle = fits.idle;
  reported = λ e. same ∙ fits.reported e;
  used_up = λ j below e.
      let was = fits.used_up j below e in
      let le = number_of-le p j (slice_index ws (word_of j)) (slice_index us (word_of j)) (more j below) in
      omega arith;
}

-- the word of the stripe j grows by 1, and the view v of the seat id changes
module _ (p : Shape) (s : BoardState) (r : KeepsRule p s) (id : ℕ) (v : View) (at : get_elem? s.views id ≡ some v) (live : 0 < v.allowance)
    (j : ℕ) (in_stripes : j < p.stripes) where
  abbrev ticket : ℕ
  ticket = slice_index s.words (word_of j)

  abbrev grown : List ℕ
  grown = set s.words (word_of j) (ticket + 1)

  grown_here : slice_index grown (word_of j) ≡ ticket + 1
  grown_here = let width = r.width in get_or-set_same s.words (word_of j) (ticket + 1) 0 (omega arith)

  grown_other : (i : ℕ) → i ≢ j → slice_index grown (word_of i) ≡ slice_index s.words (word_of i)
  grown_other i ne = get_or-set_other s.words (word_of j) (word_of i) (ticket + 1) 0 (λ e. ne (omega arith))

  stop_same : slice_index grown (word_of p.stripes) ≡ slice_index s.words (word_of p.stripes)
  stop_same = grown_other p.stripes (λ e. absurd (omega arith))

  grown_more : (i : ℕ) → i < p.stripes → slice_index s.words (word_of i) ≤ slice_index grown (word_of i)
  grown_more i below = dite (ℕ_discrete i j)
      (λ e. subst (λ (k : ℕ). slice_index s.words (word_of k) ≤ slice_index grown (word_of k)) (sym e) (let here = grown_here in omega arith))
      (λ ne. let other = grown_other i ne in omega arith)

  each_fits : (w : View) → FitsWords p grown w → (k : ℕ) (u : View) → get_elem? (set s.views id w) k ≡ some u → FitsWords p grown u
  each_fits w fits = each_set (FitsWords p grown) s.views id w fits (λ k u e. fits_grown p s.words grown u stop_same grown_more (r.each k u e))

  old_fits : FitsWords p grown v
  old_fits = fits_grown p s.words grown v stop_same grown_more (r.each id v at)

  same : (w : View) (f : View → ℕ) → f w ≡ f v → total f (set s.views id w) ≡ total f s.views
  same w f e = total_same f s.views id v w at e

  abbrev drawn : ℕ
  drawn = number_of p j ticket

  -- the ticket of another number is gone or left as before
  still_gone : (x : ℕ) → x ≢ drawn → ticket_of p x < slice_index grown (word_of (stripe_of p x))
      → ticket_of p x < slice_index s.words (word_of (stripe_of p x))
  still_gone x ne gone = dite (ℕ_discrete (stripe_of p x) j)
      (λ e.
      let here : slice_index grown (word_of (stripe_of p x)) ≡ ticket + 1 = subst (λ (k : ℕ). slice_index grown (word_of k) ≡ ticket + 1) (sym e) grown_here in
      let old : slice_index s.words (word_of (stripe_of p x)) ≡ ticket = ap (λ (k : ℕ). slice_index s.words (word_of k)) e in
      let not_this : ticket_of p x ≢ ticket = λ d. ne (number_of-parts p x j ticket e d) in
      omega arith)
      (λ apart. let other = grown_other (stripe_of p x) apart in omega arith)

  still_left : (x : ℕ) → slice_index grown (word_of (stripe_of p x)) ≤ ticket_of p x → slice_index s.words (word_of (stripe_of p x)) ≤ ticket_of p x
  still_left x is_left = let more = grown_more (stripe_of p x) (omega arith) in omega arith

  total_drawn : (x : ℕ) → total (times_drawn x) (set s.views id (with_draw v drawn)) ≡ total (times_drawn x) s.views + times x (drawn ∷ [])
  unfolding times_drawn
  total_drawn x =
      let changed = total_set (times_drawn x) s.views id v (with_draw v drawn) at in
      let longer = times-append x v.draws (drawn ∷ []) in
      omega arith

  total_other : (x : ℕ) → x ≢ drawn → total (times_drawn x) (set s.views id (with_draw v drawn)) ≡ total (times_drawn x) s.views
  total_other x ne = let more = total_drawn x in let none = times_other x drawn ne in omega arith

  -- after the step, the ticket of the number that was drawn is gone
  drawn_word : (x : ℕ) → x ≡ drawn → slice_index grown (word_of (stripe_of p x)) ≡ ticket + 1
  drawn_word x e = ap (λ (k : ℕ). slice_index grown (word_of k)) (ap (stripe_of p) e ∙ stripe_of-number_of p j ticket in_stripes) ∙ grown_here

  drawn_ticket : (x : ℕ) → x ≡ drawn → ticket_of p x ≡ ticket
  drawn_ticket x e = ap (ticket_of p) e ∙ ticket_of-number_of p j ticket in_stripes

  pub draw_keeps : drawn < p.numbers → KeepsRuleWith p s grown (set s.views id (with_draw v drawn))
  unfolding times_drawn
  draw_keeps fresh =
      let w : View = with_draw v drawn in
      let word : slice_index s.words (word_of (stripe_of p drawn)) ≡ ticket = ap (λ (k : ℕ). slice_index s.words (word_of k)) (stripe_of-number_of p j ticket in_stripes) in
      let is_ticket = drawn_ticket drawn refl in
      let once : total (times_drawn drawn) (set s.views id w) ≡ 1 =
      let new = r.left drawn fresh (omega arith) in
      let more = total_drawn drawn in
      let one = times_one drawn in
      omega arith in
      record {
        width = length-set s.words (word_of j) (ticket + 1) ∙ r.width;
        stop = stop_same ∙ (r.stop ∙ sym (ap (min 1) (same w (λ u. weight u.called_stop) refl)));
        allowance = same w (λ u. u.allowance) refl ∙ r.allowance;
        gone = λ x below gone. dite (ℕ_discrete x drawn)
            (λ e. subst (λ (k : ℕ). total (times_drawn k) (set s.views id w) ≡ 1) (sym e) once)
            (λ ne. total_other x ne ∙ r.gone x below (still_gone x ne gone));
        left = λ x below is_left. dite (ℕ_discrete x drawn)
            (λ e. let word = drawn_word x e in let is = drawn_ticket x e in absurd (omega arith))
            (λ ne. total_other x ne ∙ r.left x below (still_left x is_left));
        beyond = λ x from. total_other x (λ e. absurd (omega arith)) ∙ r.beyond x from;
        small = λ i below. let marks = same w (marked_allowance i) refl in let was = r.small i below in dite (ℕ_discrete i j)
            (λ e. subst (λ (k : ℕ). slice_index grown (word_of k) ≤ p.numbers + total (marked_allowance k) (set s.views id w)) (sym e)
            (let here = grown_here in let le = ticket_le p j ticket (omega arith) in omega arith))
            (λ ne. let other = grown_other i ne in omega arith);
        each = each_fits w (record {
          of_board = old_fits.of_board;
          idle = λ none. absurd (omega arith);
          reported = old_fits.reported;
          used_up = old_fits.used_up;
        });
      }

  allowance_if : Bool → ℕ
  allowance_if marked = if marked then v.allowance else 0

  pub used_up_keeps : p.numbers ≤ drawn → is_used_up v j ≡ false → j < length v.used_up → KeepsRuleWith p s grown (set s.views id (with_used_up v j))
  unfolding times_drawn allowance_if
  used_up_keeps past unmarked room =
      let w : View = with_used_up v j in
      let apart : (x : ℕ) → x < p.numbers → x ≢ drawn = λ x below e. absurd (omega arith) in
      let other_mark : (i : ℕ) → i ≢ j → is_used_up w i ≡ is_used_up v i = λ i ne. get_or-set_other v.used_up j i true false ne in
      let before : marked_allowance j v ≡ 0 = ap allowance_if unmarked in
      let after : marked_allowance j w ≡ v.allowance = ap allowance_if (get_or-set_same v.used_up j true false room) in
      record {
        width = length-set s.words (word_of j) (ticket + 1) ∙ r.width;
        stop = stop_same ∙ (r.stop ∙ sym (ap (min 1) (same w (λ u. weight u.called_stop) refl)));
        allowance = same w (λ u. u.allowance) refl ∙ r.allowance;
        gone = λ x below gone. same w (times_drawn x) refl ∙ r.gone x below (still_gone x (apart x below) gone);
        left = λ x below is_left. same w (times_drawn x) refl ∙ r.left x below (still_left x is_left);
        beyond = λ x from. same w (times_drawn x) refl ∙ r.beyond x from;
        small = λ i below. let was = r.small i below in dite (ℕ_discrete i j)
            (λ e. subst (λ (k : ℕ). slice_index grown (word_of k) ≤ p.numbers + total (marked_allowance k) (set s.views id w)) (sym e)
            (let here = grown_here in let old = r.small j in_stripes in let marks = total_set (marked_allowance j) s.views id v w at in omega arith))
            (λ ne. let other = grown_other i ne in let marks = same w (marked_allowance i) (ap allowance_if (other_mark i ne)) in omega arith);
        each = each_fits w (record {
          of_board = old_fits.of_board;
          idle = λ none. absurd (omega arith);
          reported = old_fits.reported;
          used_up = λ i below e. dite (ℕ_discrete i j)
              (λ is. subst (λ (k : ℕ). p.numbers ≤ number_of p k (slice_index grown (word_of k))) (sym is)
              (let le = number_of-le p j ticket (slice_index grown (word_of j)) (grown_more j in_stripes) in omega arith))
              (λ ne. old_fits.used_up i below (sym (other_mark i ne) ∙ e));
        });
      }

marked_allowance-le : (j : ℕ) (views : List View) → total (marked_allowance j) views ≤ total (λ (u : View). u.allowance) views
marked_allowance-le j [] = omega arith
marked_allowance-le j (u ∷ us) = by_mark (is_used_up u j) (marked_allowance-le j us)
  where
    by_mark : (b : Bool) → total (marked_allowance j) us ≤ total (λ (u : View). u.allowance) us
        → cond b u.allowance 0 + total (marked_allowance j) us ≤ u.allowance + total (λ (u : View). u.allowance) us
    by_mark true rest = omega arith
    by_mark false rest = omega arith

pub draws : (p : Shape) (slots id : ℕ) (me : SeatState) (j : ℕ) → p.numbers ≤ MAX_TICKETS → 0 < p.stripes → j < p.stripes
    → me.0.shape ≡ p → 0 < me.0.allowance → is_used_up me.0 j ≡ false → j < length me.0.used_up
    → Allows (KeepsRule p) slots id me (word_of j) (λ n. (n + 1) % 2 ^ 64) (DrawsTicket (step slots (word_of j) 1 0 none) me)
draws p slots id me j most any_stripe in_stripes of_board live unmarked room s r homes at fits =
    let v : View = me.0 in
    let ticket : ℕ = slice_index s.words (word_of j) in
    let x : ℕ = number_of p j ticket in
    let all : total (λ (u : View). u.allowance) s.views ≡ FULL_ALLOWANCE = r.allowance in
    let marks : total (marked_allowance j) s.views ≤ total (λ (u : View). u.allowance) s.views = marked_allowance-le j s.views in
    let small : ticket ≤ p.numbers + total (marked_allowance j) s.views = r.small j in_stripes in
    let next : (ticket + 1) % 2 ^ 64 ≡ ticket + 1 = omega arith in
    let stripe : stripe_at (word_of j) ≡ j = omega arith in
    let same_number : (q : Shape) → number_of q (stripe_at (word_of j)) ticket ≡ number_of q j ticket = λ q. ap (λ (i : ℕ). number_of q i ticket) stripe in
    dite (dec_le p.numbers x)
    (λ past. let w : View = with_used_up v j in let kept = used_up_keeps p s r id v at live j in_stripes past unmarked room in (
      w,
      keeps,
      tt,
      subst (λ (n : ℕ). KeepsRuleWith p s (set s.words (word_of j) n) (set s.views id w)) (sym next) kept,
      record {
        small = subst (λ (q : Shape). ticket ≤ q.numbers + FULL_ALLOWANCE) (sym of_board) (omega arith);
        slots = refl;
        drawn = λ fresh. let below : number_of p (stripe_at (word_of j)) ticket < p.numbers = subst (λ (q : Shape). number_of q (stripe_at (word_of j)) ticket < q.numbers) of_board fresh in
            let same = same_number p in absurd (omega arith);
        used_up = λ _. ap (with_used_up v) (sym stripe);
        sound = subst (λ (q : Shape). IsSound q.numbers v.draws) (sym of_board) (sound_of p s r id v at);
        few = subst (λ (q : Shape). length v.draws ≤ q.numbers) (sym of_board) (few_of p s r id v at);
      },
    ))
    (λ not_past. let w : View = with_draw v x in let kept = draw_keeps p s r id v at live j in_stripes (lt_of_not-le not_past) in
    let here = set_here s.views id w (length-at s.views id v at) in (
      w,
      keeps,
      tt,
      subst (λ (n : ℕ). KeepsRuleWith p s (set s.words (word_of j) n) (set s.views id w)) (sym next) kept,
      record {
        small = subst (λ (q : Shape). ticket ≤ q.numbers + FULL_ALLOWANCE) (sym of_board) (omega arith);
        slots = refl;
        drawn = λ _. subst (λ (q : Shape). w ≡ with_draw v (number_of q (stripe_at (word_of j)) ticket)) (sym of_board) (ap (with_draw v) (sym (same_number p)));
        used_up = λ old. let past : p.numbers ≤ number_of p (stripe_at (word_of j)) ticket = subst (λ (q : Shape). q.numbers ≤ number_of q (stripe_at (word_of j)) ticket) of_board old in
            let same = same_number p in absurd (not_past (omega arith));
        sound = subst (λ (q : Shape). IsSound q.numbers w.draws) (sym of_board) (sound_of p _ kept id w here);
        few = subst (λ (q : Shape). length w.draws ≤ q.numbers) (sym of_board) (few_of p _ kept id w here);
      },
    ))
