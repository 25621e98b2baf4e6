use Rattle.std.proofs.Common.{rules, ◌≡◌, ◌++◌, ◌∙◌, ◌∷◌, [], OnOk, ap}
use Rattle.std.specs.Prelude.{codes}
use Rattle.std.proofs.lemmas.List.{append_assoc}
use Rattle.std.proofs.lemmas.Result.{on_ok_weaker}
use Rattle.cp_model.specs.Decimal.{natural}
use Rattle.cp_model.specs.Report.{Text}
use Rattle.cp_outcome.specs.Outcomes.{verdict_word}
use Rattle.cp_outcome.proofs.outcome.push_verdict.Goals as goal

pub returns : goal.returns
returns c =
    let out = c.args.out.now.items in
    let word = verdict_word c.args.verdict in
    let after = codes " after round " in
    let n = natural c.args.rounds in
    let before = c.push_natural.new.out.items in
    let first : before ≡ ((out ++ word) ++ after) ++ n =
    c.in_ok-push_natural.ensures
    ∙ ap (λ (t : Text). t ++ n)
    (c.in_ok-extend_from_slice-2.ensures.items
    ∙ ap (λ (t : Text). t ++ after) (c.in_ok-extend_from_slice.ensures.items ∙ ap (λ (t : Text). out ++ t) c.word_of.ensures)) in
    let all : OnOk c.extend_from_slice-3.result (c.extend_from_slice-3.new.self.items ≡ before ++ 10 ∷ []) = search rules in
    on_ok_weaker c.extend_from_slice-3.result
    (λ reported. reported
    ∙ (ap (λ (t : Text). t ++ 10 ∷ []) first
    ∙ (append_assoc ((out ++ word) ++ after) n (10 ∷ [])
    ∙ (append_assoc (out ++ word) after (n ++ 10 ∷ []) ∙ append_assoc out word (after ++ (n ++ 10 ∷ []))))))
    all
