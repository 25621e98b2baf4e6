-- Splitting a view in two and joining two views keeps the rule.
use Rattle.std.proofs.Common.{◌≡◌, ℕ, ◌+◌, ◌-◌, ◌/◌, ◌<◌, ◌≤◌, ⊎_elim, min, Bool, true, false, cond, ◌||◌, List, set, get_or, sym, refl, ap, ◌∙◌, subst, arith}
use mathlib.Core.Option.{some}
use lib.ListN.{get_elem?}
use Rattle.atomic_table.specs.Table.{Splits, Joins}
use Rattle.atomic_table.proofs.Lists.{at_snoc, set_here, set_else}
use Rattle.cp_board.specs.declared.view.Shape.{Shape}
use Rattle.cp_board.specs.declared.view.View.{View}
use Rattle.cp_board.specs.Views.{is_used_up, first_half, second_half, join_views, spent_view}
use Rattle.cp_board.specs.Rule.{total, weight, marked_allowance, FitsWords, KeepsRule}
use Rattle.cp_board.proofs.Totals.{total_split, total_join, total_le}
use Rattle.cp_board.proofs.DrawLists.{times-append}
use Rattle.cp_board.proofs.MarkLists.{get_or-or_each}
use Rattle.cp_board.proofs.States.{times_drawn, each_set, length-at}

-- each half of a view fits the words, because it knows nothing more
half_fits : (p : Shape) (words : List ℕ) (v half : View) → FitsWords p words v → v.shape ≡ p → half.shape ≡ v.shape → half.seen_stop ≡ v.seen_stop
    → half.used_up ≡ v.used_up → 0 < half.allowance → FitsWords p words half
half_fits p words v half old of_board shape seen marks live = record {
  of_board = λ _. shape ∙ of_board;
  idle = λ none. absurd (omega arith);
  reported = λ e. old.reported (sym seen ∙ e);
  used_up = λ j below e. old.used_up j below (ap (λ (bs : List Bool). get_or bs j false) (sym marks) ∙ e);
}

pub splits : (p : Shape) (id : ℕ) (v : View) → v.shape ≡ p → 1 < v.allowance → Splits (KeepsRule p) id v (first_half v) (second_half v)
unfolding times_drawn
splits p id v of_board two s r at =
    let w : View = first_half v in
    let u : View = second_half v in
    let old = r.each id v at in
    let same : (f : View → ℕ) → f w + f u ≡ f v → _ = λ f parts. total_split f s.views id v w u at parts in
    record {
      width = r.width;
      stop = r.stop ∙ sym (ap (min 1) (same (λ z. weight z.called_stop) (omega arith)));
      allowance = same (λ z. z.allowance) (omega arith) ∙ r.allowance;
      gone = λ x below gone. same (times_drawn x) (omega arith) ∙ r.gone x below gone;
      left = λ x below is_left. same (times_drawn x) (omega arith) ∙ r.left x below is_left;
      beyond = λ x from. same (times_drawn x) (omega arith) ∙ r.beyond x from;
      small = λ j below.
          let marks = same (marked_allowance j) (half_marks v.allowance (is_used_up v j)) in
          let was = r.small j below in
          omega arith;
      each = λ k z e. ⊎_elim
          (each_set (FitsWords p s.words) s.views id w (half_fits p s.words v w old of_board refl refl refl (omega arith)) r.each k z)
          (λ (x : u ≡ z). subst (FitsWords p s.words) x (half_fits p s.words v u old of_board refl refl refl (omega arith)))
          (at_snoc (set s.views id w) u z k e);
    }
  where
    half_marks : (n : ℕ) (b : Bool) → cond b (n - n / 2) 0 + cond b (n / 2) 0 ≡ cond b n 0
    half_marks n true = omega arith
    half_marks n false = omega arith

-- a stripe that either seat has marked is marked by both with all their allowance
joined_marks : (v w : View) (j : ℕ) → marked_allowance j v + marked_allowance j w ≤ marked_allowance j (join_views v w)
joined_marks v w j = subst (λ (b : Bool). marked_allowance j v + marked_allowance j w ≤ cond b (v.allowance + w.allowance) 0)
    (sym (get_or-or_each v.used_up w.used_up j))
    (by_marks v.allowance w.allowance (is_used_up v j) (is_used_up w j))
  where
    by_marks : (m n : ℕ) (a b : Bool) → cond a m 0 + cond b n 0 ≤ cond (a || b) (m + n) 0
    by_marks m n true true = omega arith
    by_marks m n true false = omega arith
    by_marks m n false true = omega arith
    by_marks m n false false = omega arith

-- two views of one board fit its words together
joined_fits : (p : Shape) (words : List ℕ) (v w : View) → v.shape ≡ p → 0 < v.allowance → FitsWords p words v → FitsWords p words w → FitsWords p words (join_views v w)
joined_fits p words v w of_board live old theirs = record {
  of_board = λ _. of_board;
  idle = λ n. absurd (omega arith);
  reported = λ e. either_true v.seen_stop w.seen_stop e old.reported theirs.reported;
  used_up = λ j below e. either_true (is_used_up v j) (is_used_up w j) (sym (get_or-or_each v.used_up w.used_up j) ∙ e) (old.used_up j below) (theirs.used_up j below);
}
  where
    either_true : {P : Type 0} (a b : Bool) → (a || b) ≡ true → (a ≡ true → P) → (b ≡ true → P) → P
    either_true true b e f g = f refl
    either_true false b e f g = g e

spent_fits : (p : Shape) (words : List ℕ) → FitsWords p words spent_view
spent_fits p words = record {
  of_board = λ live. absurd (omega arith);
  idle = λ _. (refl, refl);
  reported = λ (seen : false ≡ true). cc;
  used_up = λ j below (marked : false ≡ true). cc;
}

pub joins : (p : Shape) (id : ℕ) (v : View) (other : ℕ) (w : View) → v.shape ≡ p → 0 < v.allowance
    → Joins (KeepsRule p) id v other w (join_views v w) spent_view
unfolding times_drawn
joins p id v other w of_board live s r at apart at_other =
    let both : View = join_views v w in
    let first : List View = set s.views id both in
    let views : List View = set first other spent_view in
    let was : get_elem? s.views other ≡ some w = sym (set_else s.views id other both apart) ∙ at_other in
    let stays : get_elem? first id ≡ some both = set_here s.views id both (length-at s.views id v at) in
    let there : get_elem? views id ≡ some both = set_else first other id spent_view (λ e. apart (sym e)) ∙ stays in
    let changed : (f : View → ℕ) → f spent_view ≡ 0 → _ = λ f none. total_join f s.views id other v w both spent_view at at_other none in
    let draws : (x : ℕ) → total (times_drawn x) views ≡ total (times_drawn x) s.views = λ x. let parts = changed (times_drawn x) refl in let sum = times-append x v.draws w.draws in omega arith in
    record {
      width = r.width;
      stop =
          let calls = changed (λ z. weight z.called_stop) refl in
          let own = total_le (λ z. weight z.called_stop) views id both there in
          r.stop ∙ by_calls v.called_stop w.called_stop _ _ calls own;
      allowance = let parts = changed (λ z. z.allowance) refl in let all = r.allowance in omega arith;
      gone = λ x below gone. draws x ∙ r.gone x below gone;
      left = λ x below is_left. draws x ∙ r.left x below is_left;
      beyond = λ x from. draws x ∙ r.beyond x from;
      small = λ j below.
          let parts = changed (marked_allowance j) refl in
          let was = r.small j below in
          let more = joined_marks v w j in
          omega arith;
      each = each_set (FitsWords p s.words) first other spent_view (spent_fits p s.words)
          (each_set (FitsWords p s.words) s.views id both (joined_fits p s.words v w of_board live (r.each id v at) (r.each other w was)) r.each);
    }
  where
    by_calls : (a b : Bool) (old new : ℕ) → new + (weight a + weight b) ≡ old + weight (a || b) → weight (a || b) ≤ new → min 1 old ≡ min 1 new
    by_calls true true old new e le = omega arith
    by_calls true false old new e le = omega arith
    by_calls false true old new e le = omega arith
    by_calls false false old new e le = omega arith
