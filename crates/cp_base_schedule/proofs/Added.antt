-- The rounds of orders, once a line more is read.
use Rattle.std.proofs.Common.{◌≡◌, ◌≤◌, ◌+◌, ℕ, Bool, true, cond, List, [], ◌∷◌, ◌++◌, length, refl, ap, sym, ◌∙◌, subst, arith}
use Rattle.std.specs.Prelude.{Some, nat_le}
use Rattle.std.proofs.lemmas.Bool.Decides.{nat_tests}
use Rattle.std.proofs.lemmas.List.{length-append, length-map}
use Rattle.cp_model.specs.OrderText.{NotALine, OrderText, Orders, line_events, lines_of, order_text, orders_from}
use Rattle.cp_model.specs.Rounds as meaning
use Rattle.cp_base_schedule.specs.Events.{event_of, events_of}
use Rattle.cp_base_schedule.specs.Parts.{Cover, EndAt, parts_from}
use Rattle.cp_base_schedule.specs.Reading.{FailsAt, Refuses, appended, judged}
use Rattle.cp_base_schedule.specs.declared.reading.OrderError.{OrderError}
use Rattle.cp_base_schedule.specs.declared.reading.OrderError.TheVariants as errors
use Rattle.cp_base_schedule.specs.declared.event.Event.{Event}
use Rattle.cp_base_schedule.proofs.Lines.{after_rounds, line_given, line_read, line_refused, text_read}
use Rattle.cp_base_schedule.proofs.Parts.{end_more, parts_more}

-- The events and ends so far represent what was read before `at`, and `rest` is what is left.
pub record IsRead (n at : ℕ) (ends : List ℕ) (events : List Event) (rest : List ℕ) (reported : OrderText) : Type 0 where
  pub whole : Cover ends events
  pub orders : after_rounds (parts_from 0 ends (events_of events)) (orders_from n at (lines_of rest)) ≡ reported

module _ (n at : ℕ) (reported : OrderText) (line rest more : List ℕ) (first : lines_of rest ≡ line ∷ lines_of more) where
  pub line_added : (ends ends' : List ℕ) (events events' : List Event) (end : ℕ)
      → appended (events_of events) (line_events n line) ≡ Some (events_of events') → end ≡ length events' → ends' ≡ ends ++ end ∷ []
      → IsRead n at ends events rest reported → IsRead n (at + (length line + 1)) ends' events' more reported
  line_added ends ends' events events' end found count is was =
      let before : List meaning.Event = events_of events in
      let given = line_given before (events_of events') (line_events n line) found in
      let new : List meaning.Event = given.0 in
      let all : before ++ new ≡ events_of events' = given.1.1 in
      let counted : length before ≡ length events = length-map events event_of in
      let counted' : length (events_of events') ≡ length events' = length-map events' event_of in
      let joined : length (before ++ new) ≡ length (events_of events') = ap length all in
      let last : end ≡ length (before ++ new) = omega (arith, count, counted', joined) in
      let grows : length events ≤ end = omega (arith, last, counted, length-append before new) in
      let whole : EndAt 0 ends (length before) = subst (EndAt 0 ends) (sym counted) was.whole in
      let parts : parts_from 0 ends' (events_of events') ≡ parts_from 0 ends before ++ new ∷ [] =
      (λ i. parts_from 0 (is i) (sym all i)) ∙ parts_more 0 ends before new end whole last in
      record {
        whole = subst (λ (es : List ℕ). EndAt 0 es (length events')) (sym is)
            (subst (EndAt 0 (ends ++ end ∷ [])) count (end_more 0 ends (length events) end was.whole grows));
        orders = ap (λ (rs : List (List meaning.Event)). after_rounds rs (orders_from n (at + (length line + 1)) (lines_of more))) parts
            ∙ line_read n (parts_from 0 ends before) at line more rest reported new first given.1.0 was.orders;
      }

-- ---- The start, the end, and a line that isn't one

nothing_before : (reported : OrderText) → after_rounds [] reported ≡ reported
nothing_before (Orders rounds) = refl
nothing_before (NotALine at) = refl

pub none_read : (n : ℕ) (text ends : List ℕ) (events : List Event) → ends ≡ [] → events ≡ [] → IsRead n 0 ends events text (order_text n text)
none_read n text ends events no_ends no_events =
    let start : IsRead n 0 [] [] text (order_text n text) = record { whole = refl; orders = nothing_before (order_text n text) } in
    subst (λ (es : List Event). IsRead n 0 ends es text (order_text n text)) (sym no_events)
    (subst (λ (es : List ℕ). IsRead n 0 es [] text (order_text n text)) (sym no_ends) start)

judged_within : (n : ℕ) (text : List ℕ) → length text ≤ 1048576 → judged n text ≡ order_text n text
judged_within n text within =
    let short : nat_le (length text) 1048576 ≡ true = grind (arith, nat_tests) in
    ap (λ (b : Bool). cond b (order_text n text) (NotALine 1048576)) short

pub all_read : (n at : ℕ) (text rest ends : List ℕ) (events : List Event) → length text ≤ 1048576 → length rest ≡ 0
    → IsRead n at ends events rest (order_text n text) → judged n text ≡ Orders (parts_from 0 ends (events_of events))
all_read n at text rest ends events within none was =
    judged_within n text within ∙ text_read (parts_from 0 ends (events_of events)) n at rest (order_text n text) none was.orders

pub read_refused : (n at : ℕ) (text line rest more ends : List ℕ) (events : List Event) (error : OrderError) → length text ≤ 1048576
    → lines_of rest ≡ line ∷ lines_of more → FailsAt at (line_events n line) error → IsRead n at ends events rest (order_text n text)
    → Refuses n text error
read_refused n at text line rest more ends events (errors.Line place) within first fails was =
    judged_within n text within
    ∙ (line_refused n (parts_from 0 ends (events_of events)) at line more rest (order_text n text) first fails.1 was.orders
    ∙ ap (λ (p : ℕ). NotALine p) (sym fails.0))
read_refused n at text line rest more ends events errors.Memory within first fails was = tt
