use Rattle.std.proofs.Common.{◌≡◌, ◌++◌, ◌∙◌, ap}
use Rattle.cp_model.specs.Report.{Text}
use Rattle.cp_outcome.specs.Outcomes.{verdict_line}
use Rattle.cp_outcome.proofs.outcome.outcome.Goals as goal

pub returns : goal.returns
returns c =
    let rounds : c.rounds.result ≡ c.args.machine.now.rounds = c.rounds.ensures in
    c.in_ok-extend_from_slice.ensures.items
    ∙ ap (λ (t : Text). t ++ c.args.reasons.now)
    (c.in_ok-push_verdict.ensures ∙ (λ i. c.new-bytes.ensures.items i ++ verdict_line c.args.verdict (rounds i)))
