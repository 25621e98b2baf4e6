use Rattle.cp_base_schedule.specs.Events.{events_of}
use Rattle.cp_rounds.proofs.InStates.{makes_replay}
use Rattle.cp_rounds.proofs.machine.Machine.replay.Goals as goal

pub returns-clause-state : goal.returns-clause-state
returns-clause-state c =
    makes_replay c.args.turn.steps (events_of c.args.events.now) c.args.self.now _ c.replays.ensures.replay c.replays.ensures.lawful c.requires.numbers
    c.in_ok-parts.ensures.made
