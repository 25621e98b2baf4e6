-- The order text: one line for each round, with the events of that round.
--
-- A line ends with a line feed, except a last line that isn't empty. It has no events, or events
-- separated by one space. An event is `P` or `K` and the number of a process, without leading
-- zeros. If some line isn't of this form, the place of the first such line is reported.
use Rattle.std.specs.Prelude.{Bool, List, None, Option, Some, [], if◌then◌else◌, length, nat_eq, nat_le, ℕ, ◌&&◌, ◌*◌, ◌+◌, ◌-◌, ◌∷◌}
use Rattle.cp_model.specs.Decimal.{digits}
use Rattle.cp_model.specs.Rounds.{Event, KernelTurn, PrivateStep}

-- The events of each round, or the place of the first line that isn't well formed: its first byte,
-- counted from 0.
pub data OrderText : Type 0 where
  Orders : (rounds : List (List Event)) → OrderText
  NotALine : (at : ℕ) → OrderText

-- ---- Pieces

abbrev pub with_first_byte : ℕ → List (List ℕ) → List (List ℕ)
with_first_byte b [] = (b ∷ []) ∷ []
with_first_byte b (piece ∷ pieces) = (b ∷ piece) ∷ pieces

-- The pieces before, between and after the places where a byte is.
abbrev pub split_at_byte : ℕ → List ℕ → List (List ℕ)
split_at_byte b [] = [] ∷ []
split_at_byte b (c ∷ text) = if nat_eq b c then [] ∷ split_at_byte b text else with_first_byte c (split_at_byte b text)

abbrev pub without_empty_last : List (List ℕ) → List (List ℕ)
without_empty_last [] = []
without_empty_last ([] ∷ []) = []
without_empty_last (piece ∷ pieces) = piece ∷ without_empty_last pieces

abbrev pub lines_of : List ℕ → List (List ℕ)
lines_of text = without_empty_last (split_at_byte 10 text)

-- ---- Events

abbrev pub is_digit : ℕ → Bool
is_digit b = nat_le 48 b && nat_le b 57

-- The number whose first digits have the value so far and whose remaining digits are these.
abbrev pub number_from : ℕ → List ℕ → Option ℕ
number_from value [] = Some value
number_from value (b ∷ digits) = if is_digit b then number_from (10 * value + (b - 48)) digits else None

-- A number above 0 without leading zeros.
abbrev pub numeral : List ℕ → Option ℕ
numeral [] = None
numeral (b ∷ digits) = if nat_eq b 48 then None else number_from 0 (b ∷ digits)

abbrev pub at_most : ℕ → Option ℕ → Option ℕ
at_most n None = None
at_most n (Some p) = if nat_le p n then Some p else None

abbrev pub event_of : (ℕ → Event) → Option ℕ → Option Event
event_of kind None = None
event_of kind (Some p) = Some (kind p)

-- The event that a word names, for the processes 1 to n.
abbrev pub event_named : ℕ → List ℕ → Option Event
event_named n [] = None
event_named n (b ∷ word) =
    if nat_eq b 80 then event_of PrivateStep (at_most n (numeral word))
    else if nat_eq b 75 then event_of KernelTurn (at_most n (numeral word))
    else None

-- ---- Lines

abbrev pub event_before : Option Event → Option (List Event) → Option (List Event)
event_before (Some event) (Some events) = Some (event ∷ events)
event_before _ _ = None

abbrev pub events_named : ℕ → List (List ℕ) → Option (List Event)
events_named n [] = Some []
events_named n (word ∷ words) = event_before (event_named n word) (events_named n words)

abbrev pub line_events : ℕ → List ℕ → Option (List Event)
line_events n [] = Some []
line_events n line = events_named n (split_at_byte 32 line)

abbrev pub round_before : Option (List Event) → ℕ → OrderText → OrderText
round_before None at rest = NotALine at
round_before (Some events) at (Orders rounds) = Orders (events ∷ rounds)
round_before (Some events) at (NotALine later) = NotALine later

-- The orders of these lines, the first of which begins at the place `at`.
abbrev pub orders_from : ℕ → ℕ → List (List ℕ) → OrderText
orders_from n at [] = Orders []
orders_from n at (line ∷ lines) = round_before (line_events n line) at (orders_from n (at + length line + 1) lines)

-- ---- The whole text

-- What an order text says, for n processes.
abbrev pub order_text : ℕ → List ℕ → OrderText
order_text n text = orders_from n 0 (lines_of text)
