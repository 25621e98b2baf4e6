use Rattle.cp_rounds_still.proofs.Rounds.{put_back}
use Rattle.cp_outcome_loops.proofs.state_loop.find_loop.Goals as goal

pub returns : goal.returns
returns g c =
    (put_back 0 c.args.machine.now c.search-found.new.machine c.restore.new.self c.in_ok-before.before c.in_ok-before.ensures c.search-found.ensures c.restore.ensures.parts c.restore.ensures.rounds c.restore.ensures.text).made
