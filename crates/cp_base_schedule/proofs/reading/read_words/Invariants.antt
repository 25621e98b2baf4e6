use Rattle.std.proofs.Common.{◌≡◌, length}
use Rattle.cp_model.specs.OrderText.{events_named, line_events, split_at_byte}
use Rattle.cp_base_schedule.specs.Events.{events_of}
use Rattle.cp_base_schedule.specs.Reading.{appended}
use Rattle.cp_base_schedule.proofs.reading.read_words.Given as goal

abbrev pub invariant-loop-event : goal.invariant-loop-event
invariant-loop-event l =
    appended (events_of l.events.items) (events_named l.processes (split_at_byte 32 l.rest))
    ≡ appended (events_of l.fn.events.items) (line_events l.processes l.line)

abbrev pub decreases-loop-event : goal.decreases-loop-event
decreases-loop-event l = length l.rest
