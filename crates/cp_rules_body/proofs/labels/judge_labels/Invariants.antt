use Rattle.std.proofs.Common.{◌≡◌, drop}
use Rattle.cp_model.specs.RulesJudged.{least}
use Rattle.cp_model.specs.RulesStatements as st
use Rattle.cp_rules_body.specs.Labels.{SameLabels}
use Rattle.cp_rules_body.proofs.labels.judge_labels.Given as goal

-- what is reported and seen in the end, from this label on
abbrev pub invariant-loop-c : goal.invariant-loop-c
invariant-loop-c l =
    let rest = st.labels l.env l.base l.seen (drop l.c-index l.list) in
    let all = st.labels l.env l.base l.fn.seen l.list in
    record {
      diagnostics : least l.diagnostics rest.violations ≡ least l.fn.diagnostics all.violations;
      seen : SameLabels rest.seen all.seen;
    }
