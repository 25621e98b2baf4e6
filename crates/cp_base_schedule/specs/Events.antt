-- The code's events as those of the definitions.
use Rattle.std.specs.Prelude.{List, map}
use Rattle.cp_model.specs.Rounds as meaning
use Rattle.cp_base_schedule.specs.declared.event.Event.{Event}
use Rattle.cp_base_schedule.specs.declared.event.Event.TheVariants.{K, P}

abbrev pub event_of : Event → meaning.Event
event_of (P p) = meaning.PrivateStep p
event_of (K p) = meaning.KernelTurn p

abbrev pub events_of : List Event → List meaning.Event
events_of es = map event_of es
