use Rattle.cp_base_schedule.specs.Rounds.{rounds_of}
use Rattle.cp_base_schedule.proofs.Within.{all_within}
use Rattle.cp_base_schedule.proofs.reading.read_orders.Goals as goal

pub returns-clause-within : goal.returns-clause-within
returns-clause-within c = all_within c.args.processes c.args.text.now (rounds_of c.in_ok-orders.orders) c.in_ok-orders.ensures.ok
