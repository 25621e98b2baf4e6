-- A process is in a monitor exactly if it holds its gate.
--
-- In a good state a process holds the gates that its end marks name, except the one at which it is
-- stopped, and a gate is named by its holder. The end marks of a process name a monitor only once, by the
-- hierarchy. So a process that is stopped at a gate doesn't hold it.
use Rattle.std.specs.Prelude.{Bool, List, [], drop, false, if◌then◌else◌, nat_eq, refl, true, ℕ, ◌∷◌, ◌≡◌}
use Rattle.std.proofs.Common.{ap, subst, sym, ◌∙◌}
use Rattle.std.proofs.lemmas.Bool.{eqb-true, true≢false}
use Rattle.cp_model.proofs.Lists.{in_more}
use Rattle.cp_model.specs.Locations.{Location}
use Rattle.cp_model.specs.Continuations.{Task, marked_monitors}
use Rattle.cp_model.specs.Configurations.{Asking, Delayed, Ended, Faulted, Fresh, Ready, Status, Unstarted, Waiting, held_gates}
use Rattle.cp_model.specs.Orders.{replay}
use Rattle.cp_model.specs.Start.{start}
use Rattle.cp_model.specs.States.{HeldBy, Setup, State, is_in}
use Rattle.cp_law_gates.specs.Gates.{IsInnermost, IsStoppedAt}
use Rattle.cp_law_gates.specs.Hierarchy.{Descends}
use Rattle.cp_law_gates.specs.InOrder.{world}
use Rattle.cp_law_gates.proofs.Lists.{first_once}
use Rattle.cp_law_typing.proofs.Texts.{accepted_texts_are_well_typed}
use Rattle.cp_law_calls.specs.Exclusion.{HolderIsInside, InsideHolds, IsInside, NoTwoInside}
use Rattle.cp_law_calls.specs.Ways.{IsGood}
use Rattle.cp_law_calls.proofs.Good.{rounds_good, start_good}

-- The innermost of the monitors isn't among the rest.
beyond : (m n : ℕ) (ms : List ℕ) → IsInnermost n ms → is_in m ms ≡ true → (n ≡ m → ⊥) → is_in m (drop 1 ms) ≡ true
beyond m n [] inner there d = absurd inner
beyond m n (k ∷ ms) inner there d = by (nat_eq m k) refl there
  where
    by : (b : Bool) → nat_eq m k ≡ b → (if b then true else is_in m ms) ≡ true → is_in m ms ≡ true
    by true e h = absurd (d (sym inner ∙ sym (eqb-true m k e)))
    by false e h = h

held : (m : ℕ) (x : Status) (k : List Task) → ((n : ℕ) → IsStoppedAt n x → IsInnermost n (marked_monitors k)) → (x ≡ Asking m → ⊥) → ((l : Location) → x ≡ Delayed m l → ⊥)
    → is_in m (marked_monitors k) ≡ true → is_in m (held_gates x k) ≡ true
held m (Asking n) k stopped asks delayed there = beyond m n (marked_monitors k) (stopped n refl) there (λ e. asks (ap Asking e))
held m (Delayed n l) k stopped asks delayed there = beyond m n (marked_monitors k) (stopped n refl) there (λ e. delayed l (ap (λ j. Delayed j l) e))
held m Unstarted k stopped asks delayed there = there
held m Fresh k stopped asks delayed there = there
held m Ready k stopped asks delayed there = there
held m Ended k stopped asks delayed there = there
held m Waiting k stopped asks delayed there = there
held m (Faulted n) k stopped asks delayed there = there

not_innermost : (place : ℕ → ℕ) (m : ℕ) (ms : List ℕ) → Descends place ms → IsInnermost m ms → is_in m (drop 1 ms) ≡ true → ⊥
not_innermost place m [] down inner there = inner
not_innermost place m (n ∷ ms) down inner there = true≢false (sym there ∙ (ap (λ z. is_in z ms) (sym inner) ∙ first_once place n ms down))

in_rest : (m : ℕ) (ms : List ℕ) → is_in m (drop 1 ms) ≡ true → is_in m ms ≡ true
in_rest m [] h = h
in_rest m (n ∷ ms) h = in_more m n ms h

inside : (place : ℕ → ℕ) (s : State) (p m : ℕ) → Descends place (marked_monitors (s.continuation p))
    → ((n : ℕ) → IsStoppedAt n (s.status p) → IsInnermost n (marked_monitors (s.continuation p)))
    → is_in m (held_gates (s.status p) (s.continuation p)) ≡ true → IsInside s p m
inside place s p m down stopped held = record {
  marked = by (s.status p) held;
  asks = λ e. not_innermost place m (marked_monitors (s.continuation p)) down (stopped m (subst (IsStoppedAt m) (sym e) refl)) (subst (λ x. is_in m (held_gates x (s.continuation p)) ≡ true) e held);
  delayed = λ l e. not_innermost place m (marked_monitors (s.continuation p)) down (stopped m (subst (IsStoppedAt m) (sym e) refl)) (subst (λ x. is_in m (held_gates x (s.continuation p)) ≡ true) e held);
}
  where
    by : (x : Status) → is_in m (held_gates x (s.continuation p)) ≡ true → is_in m (marked_monitors (s.continuation p)) ≡ true
    by (Asking n) h = in_rest m (marked_monitors (s.continuation p)) h
    by (Delayed n l) h = in_rest m (marked_monitors (s.continuation p)) h
    by Unstarted h = h
    by Fresh h = h
    by Ready h = h
    by Ended h = h
    by Waiting h = h
    by (Faulted n) h = h

same_holder : (p q : ℕ) → HeldBy p ≡ HeldBy q → p ≡ q
same_holder p q e = cc

module _ (setup : Setup) (s : State) (g : IsGood setup s) where
  pub inside_holds : (p m : ℕ) → IsInside s p m → (s.gates m).holder ≡ HeldBy p
  inside_holds p m h =
      g.holds.holder p m (held m (s.status p) (s.continuation p) (λ n e. g.in_order.gates.stopped p n e) h.asks h.delayed h.marked)

pub inside_is_held : InsideHolds
inside_is_held t setup rounds p m ok is h =
    let typed = accepted_texts_are_well_typed t setup ok is in
    inside_holds setup (replay setup (start setup) rounds) (rounds_good rounds setup (start setup) typed (start_good setup typed)) p m h

pub holder_is_inside : HolderIsInside
holder_is_inside t setup rounds p m ok is h =
    let typed = accepted_texts_are_well_typed t setup ok is in
    let s = replay setup (start setup) rounds in
    let g = rounds_good rounds setup (start setup) typed (start_good setup typed) in
    let gates = g.in_order.gates in
    inside (world setup).place s p m (gates.descends p) (λ n e. gates.stopped p n e) (gates.marked m p refl h)

pub no_two_inside : NoTwoInside
no_two_inside t setup rounds p q m ok is h k =
    same_holder p q (sym (inside_is_held t setup rounds p m ok is h) ∙ inside_is_held t setup rounds q m ok is k)
