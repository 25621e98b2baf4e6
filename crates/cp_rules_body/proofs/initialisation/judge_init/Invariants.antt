use Rattle.std.proofs.Common.{◌≡◌, map, drop}
use Rattle.cp_model.specs.RulesJudged.{least}
use Rattle.cp_model.specs.RulesStatements as st
use Rattle.cp_model.specs.View.{init_item}
use Rattle.cp_rules_body.specs.InitParts.{judge_init}
use Rattle.cp_rules_body.proofs.initialisation.judge_init.Given as goal

-- what is reported in the end, from this item on
abbrev pub invariant-loop-i : goal.invariant-loop-i
invariant-loop-i l =
    let env = l.env in
    least l.diagnostics (st.init_items env (map init_item (drop l.i-index l.items))) ≡ least l.fn.diagnostics (judge_init env l.fn.at (map init_item l.fn.items))
