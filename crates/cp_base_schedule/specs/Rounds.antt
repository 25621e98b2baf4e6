-- The rounds of orders in flat memory.
use Rattle.std.specs.Prelude.{List}
use Rattle.cp_model.specs.Rounds.{Event}
use Rattle.cp_base_schedule.specs.Events.{events_of}
use Rattle.cp_base_schedule.specs.Parts.{parts_from}
use Rattle.cp_base_schedule.specs.declared.orders.Orders.{Orders}

abbrev pub rounds_of : Orders → List (List Event)
rounds_of orders = parts_from 0 orders.ends.items (events_of orders.events.items)
