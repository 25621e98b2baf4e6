use Rattle.cp_model.proofs.Results.{if_ok}
use Rattle.cp_execute.proofs.replaying.replay_machine.Goals as goal

pub returns : goal.returns
returns c =
    let made = c.in_ok-replay_rounds.ensures in
    if_ok c.report_of.result (λ bytes is. (made.state, made.text, is)) c.report_of.ensures
