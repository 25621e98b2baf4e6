-- Lines of an order text, and words of a line.
use Rattle.std.proofs.Common.{◌≡◌, ◌+◌, ◌<◌, ◌≤◌, ℕ, Bool, true, false, cond, eqb, List, [], ◌∷◌, ◌++◌, length, take, drop, refl, ap, sym, ◌∙◌, arith}
use Rattle.std.specs.Prelude.{None, Option, Some}
use Rattle.std.proofs.lemmas.List.{append-nil, append_assoc, take_all}
use Rattle.std.proofs.lemmas.Option.{none-some, same_Some}
use Rattle.cp_model.specs.OrderText.{NotALine, OrderText, Orders, event_before, event_named, events_named, line_events, lines_of, orders_from, round_before, split_at_byte, with_first_byte, without_empty_last}
use Rattle.cp_model.specs.Rounds.{Event}
use Rattle.cp_base_schedule.specs.Pieces.{pieces_after}
use Rattle.cp_base_schedule.specs.Reading.{appended}
use Rattle.cp_base_schedule.proofs.FirstPiece.{pieces_end, pieces_go}

-- ---- The first line

with_first : (c : ℕ) (pieces : List (List ℕ)) → (p : List ℕ) × ((ps : List (List ℕ)) × (with_first_byte c pieces ≡ p ∷ ps))
with_first c [] = (c ∷ [], ([], refl))
with_first c (piece ∷ pieces) = (c ∷ piece, (pieces, refl))

-- There is always a first piece.
first_piece : (b : ℕ) (bytes : List ℕ) → (p : List ℕ) × ((ps : List (List ℕ)) × (split_at_byte b bytes ≡ p ∷ ps))
first_piece b [] = ([], ([], refl))
first_piece b (c ∷ bytes) = by (eqb b c)
  where
    by : (t : Bool) → (p : List ℕ) × ((ps : List (List ℕ)) × (cond t ([] ∷ split_at_byte b bytes) (with_first_byte c (split_at_byte b bytes)) ≡ p ∷ ps))
    by true = ([], (split_at_byte b bytes, refl))
    by false = with_first c (split_at_byte b bytes)

not_last : (line p : List ℕ) (ps : List (List ℕ)) → without_empty_last (line ∷ (p ∷ ps)) ≡ line ∷ without_empty_last (p ∷ ps)
not_last [] p ps = refl
not_last (b ∷ line) p ps = refl

only_line : (line : List ℕ) → 0 < length line → without_empty_last (line ∷ []) ≡ line ∷ []
only_line [] some = absurd (omega arith)
only_line (b ∷ line) some = refl

module _ (text : List ℕ) (end : ℕ) (first : split_at_byte 10 text ≡ take end text ∷ pieces_after 10 (drop end text)) where
  pub line_ends : end < length text → lines_of text ≡ take end text ∷ lines_of (drop (end + 1) text)
  line_ends inside =
      let line : List ℕ = take end text in
      let more : List (List ℕ) = split_at_byte 10 (drop (end + 1) text) in
      let f = first_piece 10 (drop (end + 1) text) in
      ap without_empty_last (first ∙ ap (λ (ps : List (List ℕ)). line ∷ ps) (pieces_go 10 text end inside))
      ∙ (ap (λ (ps : List (List ℕ)). without_empty_last (line ∷ ps)) f.1.1
      ∙ (not_last line f.0 f.1.0 ∙ ap (λ (ps : List (List ℕ)). line ∷ without_empty_last ps) (sym f.1.1)))

  pub line_last : 0 < length text → length text ≤ end → lines_of text ≡ text ∷ lines_of []
  line_last some past =
      let whole : take end text ≡ text = take_all end text past in
      ap without_empty_last (first ∙ (λ i. whole i ∷ pieces_end 10 text end past i)) ∙ only_line text some

-- ---- Words

pub appended_more : (before : List Event) (event : Event) (rest : Option (List Event))
    → appended (before ++ event ∷ []) rest ≡ appended before (event_before (Some event) rest)
appended_more before event None = refl
appended_more before event (Some events) = ap (λ (es : List Event). Some es) (append_assoc before (event ∷ []) events)

pub appended_none : (before : List Event) (rest : Option (List Event)) → None ≡ appended before rest → rest ≡ None
appended_none before None e = refl
appended_none before (Some events) e = cc

module _ (n : ℕ) (bytes : List ℕ) (end : ℕ) (first : split_at_byte 32 bytes ≡ take end bytes ∷ pieces_after 32 (drop end bytes)) where
  words : events_named n (split_at_byte 32 bytes) ≡ event_before (event_named n (take end bytes)) (events_named n (pieces_after 32 (drop end bytes)))
  words = ap (events_named n) first

  pub word_refused : event_named n (take end bytes) ≡ None → events_named n (split_at_byte 32 bytes) ≡ None
  word_refused e = words ∙ ap (λ (o : Option Event). event_before o (events_named n (pieces_after 32 (drop end bytes)))) e

  pub word_ends : (event : Event) (before : List Event) → event_named n (take end bytes) ≡ Some event → end < length bytes
      → appended (before ++ event ∷ []) (events_named n (split_at_byte 32 (drop (end + 1) bytes))) ≡ appended before (events_named n (split_at_byte 32 bytes))
  word_ends event before e inside =
      let rest : Option (List Event) = events_named n (split_at_byte 32 (drop (end + 1) bytes)) in
      appended_more before event rest
      ∙ sym (ap (appended before) (words ∙ (λ i. event_before (e i) (events_named n (pieces_go 32 bytes end inside i)))))

  pub word_last : (event : Event) (before : List Event) → event_named n (take end bytes) ≡ Some event → length bytes ≤ end
      → appended before (events_named n (split_at_byte 32 bytes)) ≡ Some (before ++ event ∷ [])
  word_last event before e past =
      ap (appended before) (words ∙ (λ i. event_before (e i) (events_named n (pieces_end 32 bytes end past i))))

-- ---- Rounds

-- The text, with more rounds before its own.
abbrev pub after_rounds : List (List Event) → OrderText → OrderText
after_rounds done (Orders rounds) = Orders (done ++ rounds)
after_rounds done (NotALine at) = NotALine at

after_round : (done : List (List Event)) (events : List Event) (at : ℕ) (rest : OrderText)
    → after_rounds (done ++ events ∷ []) rest ≡ after_rounds done (round_before (Some events) at rest)
after_round done events at (Orders rounds) = ap (λ (rs : List (List Event)). Orders rs) (append_assoc done (events ∷ []) rounds)
after_round done events at (NotALine later) = refl

-- What is read of a text, once a line more is read.
module _ (n : ℕ) (done : List (List Event)) (at : ℕ) (line more text : List ℕ) (reported : OrderText) where
  first_line : lines_of text ≡ line ∷ lines_of more
      → orders_from n at (lines_of text) ≡ round_before (line_events n line) at (orders_from n (at + (length line + 1)) (lines_of more))
  first_line first =
      let place : at + length line + 1 ≡ at + (length line + 1) = omega arith in
      ap (orders_from n at) first ∙ ap (λ (from : ℕ). round_before (line_events n line) at (orders_from n from (lines_of more))) place

  pub line_read : (events : List Event) → lines_of text ≡ line ∷ lines_of more → line_events n line ≡ Some events
      → after_rounds done (orders_from n at (lines_of text)) ≡ reported
      → after_rounds (done ++ events ∷ []) (orders_from n (at + (length line + 1)) (lines_of more)) ≡ reported
  line_read events first found was =
      let rest : OrderText = orders_from n (at + (length line + 1)) (lines_of more) in
      after_round done events at rest
      ∙ (ap (after_rounds done) (ap (λ (r : Option (List Event)). round_before r at rest) (sym found) ∙ sym (first_line first)) ∙ was)

  pub line_refused : lines_of text ≡ line ∷ lines_of more → line_events n line ≡ None → after_rounds done (orders_from n at (lines_of text)) ≡ reported
      → reported ≡ NotALine at
  line_refused first none was =
      let rest : OrderText = orders_from n (at + (length line + 1)) (lines_of more) in
      sym was ∙ ap (after_rounds done) (first_line first ∙ ap (λ (r : Option (List Event)). round_before r at rest) none)

-- The events of a line are those that were appended.
pub line_given : (before after : List Event) (line : Option (List Event)) → appended before line ≡ Some after
    → (events : List Event) × ((line ≡ Some events) × (before ++ events ≡ after))
line_given before after None e = absurd (none-some after e)
line_given before after (Some events) e = (events, (refl, same_Some (before ++ events) after e))

-- The text ends.
pub text_read : (done : List (List Event)) (n at : ℕ) (rest : List ℕ) (reported : OrderText) → length rest ≡ 0
    → after_rounds done (orders_from n at (lines_of rest)) ≡ reported → reported ≡ Orders done
text_read done n at [] reported none was = sym was ∙ ap (λ (rs : List (List Event)). Orders rs) (append-nil done)
text_read done n at (b ∷ rest) reported none was = absurd (omega arith)
