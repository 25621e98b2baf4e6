-- The seat that closes a board has the whole allowance, so its draws and calls are all that there
-- were.
use Rattle.std.proofs.Common.{◌≡◌, ℕ, ◌<◌, Bool, true, false, List, length, slice_index, sym, refl, ap, ◌∙◌, subst, arith, lt_of_not-le}
use mathlib.Core.Logic.{dite}
use mathlib.Core.Option.{some}
use native.Mathlib.Decide.{dec_le}
use lib.ListN.{get_elem?}
use Rattle.atomic_table.specs.Table.{Final, Seen}
use Rattle.cp_board.specs.declared.view.Shape.{Shape}
use Rattle.cp_board.specs.declared.view.TheConstants.{FULL_ALLOWANCE}
use Rattle.cp_board.specs.declared.view.View.{View}
use Rattle.cp_board.specs.Draws.{IsWhole, times}
use Rattle.cp_board.specs.Stripes.{stripe_of, ticket_of, word_of}
use Rattle.cp_board.specs.Views.{IsDone}
use Rattle.cp_board.specs.Rule.{total, weight, FitsWords, KeepsRule}
use Rattle.cp_board.proofs.Totals.{total_alone}
use Rattle.cp_board.proofs.DrawLists.{contains_counted, length-whole}
use Rattle.cp_board.proofs.StripeNumbers.{number_of-parts, number_of-le}
use Rattle.cp_board.proofs.States.{BoardState, times_drawn, few_of}

-- what a closing seat knows of the whole board
pub record KnowsAll (p : Shape) (v : View) : Type 0 where
  pub whole : IsDone v → IsWhole p.numbers v.draws
  pub count : IsDone v → length v.draws ≡ p.numbers
  pub called : v.seen_stop ≡ true → v.called_stop ≡ true

-- the seat has the whole allowance of its board
abbrev pub IsClosing : Shape → View → Type 0
IsClosing p v = (v.allowance ≡ FULL_ALLOWANCE) × (v.shape ≡ p)

module _ (p : Shape) (s : BoardState) (r : KeepsRule p s) (some_stripe : 0 < p.stripes)
    (id : ℕ) (v : View) (at : get_elem? s.views id ≡ some v) (closing : IsClosing p v) where
  -- f of this seat is the sum of f over all seats
  alone : (f : View → ℕ) → ((u : View) → FitsWords p s.words u → u.allowance ≡ 0 → f u ≡ 0) → total f s.views ≡ f v
  alone f idle = total_alone (λ (u : View). u.allowance) f s.views id v (λ k u e none. idle u (r.each k u e) none) at (r.allowance ∙ sym closing.0)

  each_drawn : IsDone v → (x : ℕ) → x < p.numbers → 0 < times x v.draws
  unfolding times_drawn
  each_drawn done x below =
      let all : total (times_drawn x) s.views ≡ times x v.draws = alone (times_drawn x) (λ u fits none. ap (times x) (fits.idle none).0) in
      let stripe : ℕ = stripe_of p x in
      let in_stripes : stripe < p.stripes = omega arith in
      let used_up = (r.each id v at).used_up stripe in_stripes (done stripe (subst (λ (q : Shape). stripe < q.stripes) (sym closing.1) in_stripes)) in
      dite (dec_le (slice_index s.words (word_of stripe)) (ticket_of p x))
      (λ is_left.
      let le = number_of-le p stripe (slice_index s.words (word_of stripe)) (ticket_of p x) is_left in
      let is = number_of-parts p x stripe (ticket_of p x) refl refl in
      absurd (omega arith))
      (λ not_left. let once = r.gone x below (lt_of_not-le not_left) in omega arith)

  calls_seen : v.seen_stop ≡ true → v.called_stop ≡ true
  calls_seen seen =
      let on = (r.each id v at).reported seen in
      let stop = r.stop in
      let all = alone (λ (u : View). weight u.called_stop) (λ u fits none. ap weight (fits.idle none).1) in
      weighs v.called_stop (omega arith)
    where
      weighs : (b : Bool) → 0 < weight b → b ≡ true
      weighs true some_weight = refl
      weighs false some_weight = absurd (omega arith)

  pub closes : KnowsAll p v
  closes = record {
    whole = λ done x below. contains_counted x v.draws (each_drawn done x below);
    count = λ done.
        let least = length-whole p.numbers v.draws (each_drawn done) in
        let most = few_of p s r id v at in
        omega arith;
    called = calls_seen;
  }

-- the same for the words of a closed table, with other names for the board and the seat
pub closed : (p q : Shape) (v u : View) (words : List ℕ) (slots : List (Unit {0})) (id : ℕ) → Final (Seen (KeepsRule p) id v) words slots
    → p ≡ q → v ≡ u → 0 < q.stripes → u.allowance ≡ FULL_ALLOWANCE → u.shape ≡ q → KnowsAll q u
closed p q v u words slots id final same_shape same_view some_stripe whole of_board =
    let rule : KeepsRule q final.0 = subst (λ (shape : Shape). KeepsRule shape final.0) same_shape final.1.0 in
    closes q final.0 rule some_stripe id u (final.1.1 ∙ ap some same_view) (whole, of_board)
