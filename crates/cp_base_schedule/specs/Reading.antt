-- Which order texts are refused, and what the steps of reading add.
use Rattle.std.specs.Prelude.{◌≡◌, ℕ, List, ◌++◌, None, Option, Some, if◌then◌else◌, length, nat_le, slice_get}
use Rattle.cp_model.specs.OrderText.{NotALine, OrderText, order_text}
use Rattle.cp_model.specs.Rounds.{Event}
use Rattle.cp_model_machine.specs.Replays.{AreWithin}
use Rattle.cp_base_schedule.specs.declared.reading.OrderError.{OrderError}
use Rattle.cp_base_schedule.specs.declared.reading.OrderError.TheVariants as error

-- A text for n processes. If it is too long, it is refused at the limit.
abbrev pub judged : ℕ → List ℕ → OrderText
judged n text = if nat_le (length text) 1048576 then order_text n text else NotALine 1048576

-- All rounds have only events of the processes 1 to n.
abbrev pub AllWithin : ℕ → List (List Event) → Type 0
AllWithin n rounds = (i : ℕ) (events : List Event) → slice_get rounds i ≡ Some events → AreWithin n events

-- The error says why the text is refused, unless memory ran out.
abbrev pub Refuses : ℕ → List ℕ → OrderError → Type 0
Refuses n text (error.Line at) = judged n text ≡ NotALine at
Refuses n text error.Memory = Unit {0}

-- ---- One line

-- The events of a line after others.
abbrev pub appended : List Event → Option (List Event) → Option (List Event)
appended before None = None
appended before (Some events) = Some (before ++ events)

-- The line, which begins at this place, isn't well formed, unless memory ran out.
abbrev pub FailsAt : ℕ → Option (List Event) → OrderError → Type 0
FailsAt at events (error.Line place) = (place ≡ at) × (events ≡ None)
FailsAt at events error.Memory = Unit {0}
