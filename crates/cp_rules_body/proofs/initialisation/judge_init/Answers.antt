use Rattle.std.proofs.Common.{◌≡◌, ◌+◌, ◌∷◌, map, drop, ap, sym, ◌∙◌}
use Rattle.std.proofs.lemmas.List.{at_drop_more}
use Rattle.cp_model.specs.RulesStatements as st
use Rattle.cp_model.specs.View.{init_item}
use Rattle.cp_rules_body.proofs.Reports.{rest_reported}
use Rattle.cp_rules_body.proofs.initialisation.judge_init.Goals as goal

pub loop-i-preserved : goal.loop-i-preserved
loop-i-preserved c =
    let env = c.args.env.now in
    let all = c.args.items.now in
    let i = c.loop-i.i-index in
    let o = c.i-item.result in
    let step : st.init_items env (map init_item (drop i all)) ≡ st.init_items env (map init_item (o ∷ drop (i + 1) all)) =
    at_drop_more (λ os. st.init_items env (map init_item os)) all i o c.loop-i-test.true ∙ ap (λ p. st.init_items env (map init_item (p ∷ drop (i + 1) all))) (sym c.i-item.is) in
    rest_reported c.loop-i.diagnostics c.item.new.diagnostics (st.init_item env (init_item o)) (st.init_items env (map init_item (drop (i + 1) all))) _ c.item.ensures step ∙ c.loop-i.invariant
