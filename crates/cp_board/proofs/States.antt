-- States of a board under its rule, and what the rule says of the draws of each seat.
use Rattle.std.proofs.Common.{◌≡◌, ◌≢◌, ⊎_elim, subst, ℕ, zero, suc, ◌<◌, ◌≤◌, List, [], ◌∷◌, length, slice_index, set, sym, arith, lt_of_not-le}
use mathlib.Core.Logic.{dite}
use mathlib.Core.Option.{some, some-ne-none}
use native.Mathlib.Decide.{dec_le}
use lib.ListN.{get_elem?}
use Rattle.atomic_table.specs.Table.{State}
use Rattle.atomic_table.proofs.Lists.{at_set}
use Rattle.cp_board.specs.declared.view.Shape.{Shape}
use Rattle.cp_board.specs.declared.view.View.{View}
use Rattle.cp_board.specs.Draws.{IsSound, times}
use Rattle.cp_board.specs.Stripes.{stripe_of, ticket_of, word_of}
use Rattle.cp_board.specs.Rule.{total, KeepsRule}
use Rattle.cp_board.proofs.Totals.{total_set, total_le}
use Rattle.cp_board.proofs.DrawLists.{AreCounted, sound_from_counted, length-counted}

abbrev pub BoardState : Type 0
BoardState = State (Unit {0}) View

-- the rule of the state s with other words and views
abbrev pub KeepsRuleWith : Shape → BoardState → List ℕ → List View → Type 0
KeepsRuleWith p s words views = KeepsRule p (record { words = words; homes = s.homes; views = views })

-- how many times the seat drew x
unfoldable pub times_drawn : ℕ → View → ℕ
times_drawn x v = times x v.draws

pub counted_of : (p : Shape) (s : BoardState) → KeepsRule p s → (id : ℕ) (v : View) → get_elem? s.views id ≡ some v → AreCounted p.numbers v.draws
counted_of p s r id v at = record {
  once = λ x. let le = total_le (λ (u : View). times x u.draws) s.views id v at in dite (dec_le p.numbers x)
      (λ from. let none = r.beyond x from in omega arith)
      (λ not_from. dite (dec_le (slice_index s.words (word_of (stripe_of p x))) (ticket_of p x))
      (λ is_left. let none = r.left x (lt_of_not-le not_from) is_left in omega arith)
      (λ not_left. let one = r.gone x (lt_of_not-le not_from) (lt_of_not-le not_left) in omega arith));
  beyond = λ x from.
      let le = total_le (λ (u : View). times x u.draws) s.views id v at in
      let none = r.beyond x from in
      omega arith;
}

pub sound_of : (p : Shape) (s : BoardState) → KeepsRule p s → (id : ℕ) (v : View) → get_elem? s.views id ≡ some v → IsSound p.numbers v.draws
sound_of p s r id v at = sound_from_counted p.numbers v.draws (counted_of p s r id v at)

pub few_of : (p : Shape) (s : BoardState) → KeepsRule p s → (id : ℕ) (v : View) → get_elem? s.views id ≡ some v → length v.draws ≤ p.numbers
few_of p s r id v at = length-counted p.numbers v.draws (counted_of p s r id v at)

-- if a seat's new view has as much of f as its old one, so do all views together
pub total_same : (f : View → ℕ) (views : List View) (id : ℕ) (v w : View) → get_elem? views id ≡ some v → f w ≡ f v
    → total f (set views id w) ≡ total f views
total_same f views id v w at same = let changed = total_set f views id v w at in omega arith

pub length-at : {A : Type 0} (xs : List A) (i : ℕ) (x : A) → get_elem? xs i ≡ some x → i < length xs
length-at [] i x at = absurd (some-ne-none x (sym at))
length-at (y ∷ ys) zero x at = omega arith
length-at (y ∷ ys) (suc i) x at = let rest = length-at ys i x at in omega arith

-- if something holds of each view and of one that replaces another, it still holds of each view
pub each_set : (P : View → Type 0) (views : List View) (id : ℕ) (w : View) → P w → ((k : ℕ) (u : View) → get_elem? views k ≡ some u → P u)
    → (k : ℕ) (u : View) → get_elem? (set views id w) k ≡ some u → P u
each_set P views id w new old k u at = ⊎_elim
    (λ (x : (k ≡ id) × (w ≡ u)). subst P x.1 new)
    (λ (x : (k ≢ id) × (get_elem? views k ≡ some u)). old k u x.1)
    (at_set views id k w u at)
