use Rattle.std.proofs.Common.{◌≡◌, ◌+◌, ◌∷◌, ◌++◌, List, drop, ap, sym, ◌∙◌}
use Rattle.std.proofs.lemmas.List.{at_drop_more}
use Rattle.cp_model.specs.RulesJudged.{then_judge, violations_of}
use Rattle.cp_model.specs.RulesStatements as st
use Rattle.cp_model.specs.RulesTypes as types
use Rattle.cp_model.specs.declared.tree.Constant.{Constant}
use Rattle.cp_rules_body.proofs.LabelsReported.{labels_same, labels_reported}
use Rattle.cp_rules_body.proofs.Reports.{rest_reported}
use Rattle.cp_rules_body.proofs.labels.judge_labels.Goals as goal

pub loop-c-preserved : goal.loop-c-preserved
loop-c-preserved c =
    let env = c.args.env.now in
    let base = c.args.base in
    let all = c.args.list.now in
    let i = c.loop-c.c-index in
    let o = c.c-item.result in
    let seen = c.loop-c.seen in
    let new = c.judge_label.new.seen in
    let rest = drop (i + 1) all in
    let one = types.constant env o in
    let label = violations_of (then_judge one (st.c2_c3_label base seen (types.constant_at o))) in
    let of = λ (cs : List Constant). st.labels env base seen cs in
    let step : of (drop i all) ≡ of (o ∷ rest) = at_drop_more of all i o c.loop-c-test.true ∙ ap (λ p. of (p ∷ rest)) (sym c.c-item.is) in
    let same = c.in_ok-judge_label.ensures.seen in
    let behind = labels_reported env base new (st.more_seen seen one) rest same in
    record {
      diagnostics = rest_reported c.loop-c.diagnostics c.judge_label.new.diagnostics label (st.labels env base new rest).violations (of (drop i all)).violations c.in_ok-judge_label.ensures.diagnostics
          (ap (λ (l : st.Labelled). l.violations) step ∙ ap (λ vs. label ++ vs) (sym behind))
          ∙ c.loop-c.invariant.diagnostics;
      seen = λ x. labels_same env base new (st.more_seen seen one) rest same x ∙ sym (ap (λ (l : st.Labelled). st.is_among x l.seen) step) ∙ c.loop-c.invariant.seen x;
    }
