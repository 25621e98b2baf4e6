use Rattle.cp_base_schedule.specs.Rounds.{rounds_of}
use Rattle.cp_execute_search.proofs.Certified.{kind_reached}
use Rattle.cp_execute_search.proofs.certifying.replay_machine.Goals as goal

pub returns : goal.returns
returns c =
    kind_reached c.args.kind c.args.servers.now (rounds_of c.args.orders.now) c.args.machine.now c.replay_rounds.new.machine c.in_ok-replay_rounds.ensures.state (c.is_of_kind.ensures c.if-not-is_of_kind.false)
