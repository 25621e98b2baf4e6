-- The events that are read are of the processes that there are.
use Rattle.std.proofs.Common.{◌≡◌, ◌+◌, ◌-◌, ◌*◌, ◌≤◌, ℕ, zero, suc, Bool, true, false, cond, eqb, List, [], ◌∷◌, length, refl, ap, sym, ◌∙◌, subst, arith}
use Rattle.std.specs.Prelude.{None, Option, Some, nat_le}
use Rattle.std.proofs.lemmas.Bool.Decides.{nat_tests}
use Rattle.std.proofs.lemmas.Option.{none-some, same_Some}
use Rattle.cp_model.specs.OrderText.{NotALine, OrderText, Orders, at_most, event_before, event_named, event_of, events_named, is_digit, line_events, lines_of, number_from, numeral, order_text, orders_from, round_before, split_at_byte}
use Rattle.cp_model.specs.Rounds.{Event, KernelTurn, PrivateStep}
use Rattle.cp_model_machine.specs.Replays.{AreWithin, process_of}
use Rattle.cp_base_schedule.specs.Reading.{AllWithin, judged}

-- ---- Numbers

grows : (value : ℕ) (digits : List ℕ) (p : ℕ) → number_from value digits ≡ Some p → value ≤ p
grows value [] p e = let is : value ≡ p = same_Some value p e in omega (arith, is)
grows value (d ∷ digits) p e = by (is_digit d) (grows (10 * value + (d - 48)) digits p) e
  where
    by : (b : Bool) → (number_from (10 * value + (d - 48)) digits ≡ Some p → 10 * value + (d - 48) ≤ p)
        → cond b (number_from (10 * value + (d - 48)) digits) None ≡ Some p → value ≤ p
    by true rest f = let more = rest f in omega (arith, more)
    by false rest f = absurd (none-some p f)

above_zero : (word : List ℕ) (p : ℕ) → numeral word ≡ Some p → 1 ≤ p
above_zero [] p e = absurd (none-some p e)
above_zero (d ∷ digits) p e = by (eqb d 48) refl e
  where
    digit : (b : Bool) → eqb d 48 ≡ false → is_digit d ≡ b → cond b (number_from (10 * 0 + (d - 48)) digits) None ≡ Some p → 1 ≤ p
    digit true other is f =
        let more = grows (10 * 0 + (d - 48)) digits p f in
        let some : 1 ≤ d - 48 = grind (arith, nat_tests, other, is) in
        omega (arith, more, some)
    digit false other is f = absurd (none-some p f)

    by : (b : Bool) → eqb d 48 ≡ b → cond b None (number_from 0 (d ∷ digits)) ≡ Some p → 1 ≤ p
    by true other f = absurd (none-some p f)
    by false other f = digit (is_digit d) other refl f

number_within : (n : ℕ) (number : Option ℕ) (p : ℕ) → at_most n number ≡ Some p → (number ≡ Some p) × (p ≤ n)
number_within n None p e = absurd (none-some p e)
number_within n (Some q) p e = by (nat_le q n) refl e
  where
    by : (b : Bool) → nat_le q n ≡ b → cond b (Some q) None ≡ Some p → (Some q ≡ Some p) × (p ≤ n)
    by true is f =
        let same = same_Some q p f in
        let within : q ≤ n = grind (arith, nat_tests, is) in
        (f, omega (arith, same, within))
    by false is f = absurd (none-some p f)

-- ---- Events

word_within : (n : ℕ) (word : List ℕ) (kind : ℕ → Event) → ((p : ℕ) → process_of (kind p) ≡ p) → (e : Event)
    → event_of kind (at_most n (numeral word)) ≡ Some e → (1 ≤ process_of e) × (process_of e ≤ n)
word_within n word kind of e is = by (at_most n (numeral word)) refl is
  where
    by : (o : Option ℕ) → at_most n (numeral word) ≡ o → event_of kind o ≡ Some e → (1 ≤ process_of e) × (process_of e ≤ n)
    by None found f = absurd (none-some e f)
    by (Some p) found f =
        let number = number_within n (numeral word) p found in
        let first = above_zero word p number.0 in
        let same : process_of e ≡ p = ap process_of (sym (same_Some (kind p) e f)) ∙ of p in
        let last = number.1 in
        (omega (arith, same, first), omega (arith, same, last))

event_within : (n : ℕ) (word : List ℕ) (e : Event) → event_named n word ≡ Some e → (1 ≤ process_of e) × (process_of e ≤ n)
event_within n [] e is = absurd (none-some e is)
event_within n (b ∷ word) e is = step (eqb b 80) is
  where
    turn : (t : Bool) → cond t (event_of KernelTurn (at_most n (numeral word))) None ≡ Some e → (1 ≤ process_of e) × (process_of e ≤ n)
    turn true f = word_within n word KernelTurn (λ p. refl) e f
    turn false f = absurd (none-some e f)

    step : (t : Bool) → cond t (event_of PrivateStep (at_most n (numeral word))) (cond (eqb b 75) (event_of KernelTurn (at_most n (numeral word))) None) ≡ Some e
        → (1 ≤ process_of e) × (process_of e ≤ n)
    step true f = word_within n word PrivateStep (λ p. refl) e f
    step false f = turn (eqb b 75) f

events_within : (n : ℕ) (words : List (List ℕ)) (events : List Event) → events_named n words ≡ Some events → AreWithin n events
events_within n [] events is = subst (AreWithin n) (same_Some [] events is) tt
events_within n (word ∷ words) events is = by (event_named n word) (events_named n words) refl refl (events_within n words) is
  where
    by : (first : Option Event) (rest : Option (List Event)) → event_named n word ≡ first → events_named n words ≡ rest
        → ((later : List Event) → events_named n words ≡ Some later → AreWithin n later)
        → event_before first rest ≡ Some events → AreWithin n events
    by None rest e f others is = absurd (none-some events is)
    by (Some event) None e f others is = absurd (none-some events is)
    by (Some event) (Some later) e f others is =
        let first = event_within n word event e in
        subst (AreWithin n) (same_Some (event ∷ later) events is) (first.0, first.1, others later f)

line_within : (n : ℕ) (line : List ℕ) (events : List Event) → line_events n line ≡ Some events → AreWithin n events
line_within n [] events is = subst (AreWithin n) (same_Some [] events is) tt
line_within n (b ∷ line) events is = events_within n (split_at_byte 32 (b ∷ line)) events is

-- ---- Rounds

orders_is : (a b : List (List Event)) → Orders a ≡ Orders b → a ≡ b
orders_is a b e = cc

no_orders : (at : ℕ) (rounds : List (List Event)) → NotALine at ≡ Orders rounds → ⊥
no_orders at rounds e = cc

both : (n : ℕ) (events : List Event) (more : List (List Event)) → AreWithin n events → AllWithin n more → AllWithin n (events ∷ more)
both n events more first rest zero es e = subst (AreWithin n) (same_Some events es e) first
both n events more first rest (suc i) es e = rest i es e

lines_within : (n at : ℕ) (lines : List (List ℕ)) (rounds : List (List Event)) → orders_from n at lines ≡ Orders rounds → AllWithin n rounds
lines_within n at [] rounds is = subst (AllWithin n) (orders_is [] rounds is) (λ i events e. absurd (none-some events e))
lines_within n at (line ∷ lines) rounds is =
    by (line_events n line) (orders_from n (at + length line + 1) lines) refl refl (lines_within n (at + length line + 1) lines) is
  where
    by : (first : Option (List Event)) (rest : OrderText) → line_events n line ≡ first → orders_from n (at + length line + 1) lines ≡ rest
        → ((more : List (List Event)) → orders_from n (at + length line + 1) lines ≡ Orders more → AllWithin n more)
        → round_before first at rest ≡ Orders rounds → AllWithin n rounds
    by None rest e f others is = absurd (no_orders at rounds is)
    by (Some events) (NotALine later) e f others is = absurd (no_orders later rounds is)
    by (Some events) (Orders more) e f others is =
        subst (AllWithin n) (orders_is (events ∷ more) rounds is) (both n events more (line_within n line events e) (others more f))

pub all_within : (n : ℕ) (text : List ℕ) (rounds : List (List Event)) → judged n text ≡ Orders rounds → AllWithin n rounds
all_within n text rounds is = by (nat_le (length text) 1048576) is
  where
    by : (b : Bool) → cond b (order_text n text) (NotALine 1048576) ≡ Orders rounds → AllWithin n rounds
    by true f = lines_within n 0 (lines_of text) rounds f
    by false f = absurd (no_orders 1048576 rounds f)
