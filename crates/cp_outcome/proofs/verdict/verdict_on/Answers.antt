use Rattle.cp_outcome.proofs.Ends.{ended_is_done}
use Rattle.cp_outcome.proofs.verdict.verdict_on.Goals as goal

pub returns-clause-ended : goal.returns-clause-ended
returns-clause-ended c =
    ended_is_done c.states.ensures.still c.states.ensures.sound c.args.servers.now c.args.machine.now c.judge.result c.judge.ensures
