use Rattle.std.proofs.Common.{take}
use Rattle.std.specs.List.{fold}
use Rattle.cp_model_machine.specs.Replays.{event}
use Rattle.cp_base_schedule.specs.Events.{events_of}
use Rattle.cp_rounds.specs.Replayed.{Leads}
use Rattle.cp_rounds.proofs.events.make_events.Given as goal

abbrev pub invariant-loop-event : goal.invariant-loop-event
invariant-loop-event l =
    Leads l.config l.round_time (λ m. fold (event l.turn.steps) m (take l.event-index (events_of l.events))) l.fn.privates.items l.privates.items
    l.fn.kernel l.kernel
