use Rattle.std.proofs.Common.{◌≡◌, ◌+◌, length, ap, ◌∙◌}
use Rattle.cp_rounds_handoff.specs.Turned.{round_time_of}
use Rattle.cp_rounds.proofs.Made.{one_round_made}
use Rattle.cp_rounds.proofs.round.make_round.Goals as goal

pub returns-clause-made : goal.returns-clause-made
returns-clause-made g c =
    let run = c.args.run.now in
    let config = run.turns.config.now in
    let t = run.turns.plan.turn.steps in
    let rounds = run.turns.done + c.args.index in
    let before = c.args.parts.now in
    let ys = c.in_ok-round.round.start.value.items in
    let k1 = c.open_round.new.kernel in
    let zs = c.finish_all.new.privates.items in
    let k2 = c.finish_all.new.kernel in
    let opened = c.in_ok-round.ensures.opened in
    let count : length zs ≡ length ys = c.finish_all.ensures.count ∙ opened.count in
    let round = c.in_ok-round.round in
    let time : round.round_time ≡ round_time_of config.tick.rounds rounds =
    round.time ∙ (ap g.C.Course.round_time c.in_ok-round.ensures.index ∙ run.turns.times c.args.index) in
    let taken = c.finish_all.ensures.taken rounds time in
    one_round_made config t rounds before.privates.items before.kernel ys k1 zs k2 c.close_round.new.privates.items c.close_round.new.kernel opened.same
    count taken c.close_round.ensures
