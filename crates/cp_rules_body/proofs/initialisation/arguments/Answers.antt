use Rattle.std.proofs.Common.{◌≡◌, ◌+◌, ◌∷◌, map, drop, slice_get, ap, sym, ◌∙◌, refl}
use Rattle.std.proofs.lemmas.List.{at_drop_more}
use Rattle.cp_model.specs.RulesJudged.{violations_of}
use Rattle.cp_model.specs.RulesStatements as st
use Rattle.cp_model.specs.View.{expression, expressions_of}
use Rattle.cp_rules_body.specs.InitParts as parts
use Rattle.cp_rules_body.proofs.InitReported.{arguments_step}
use Rattle.cp_rules_body.proofs.Reports.{rest_reported}
use Rattle.cp_rules_body.proofs.initialisation.arguments.Goals as goal

pub loop-number-preserved : goal.loop-number-preserved
loop-number-preserved c =
    let env = c.args.env.now in
    let ps = parts.parameters_if env c.args.system in
    let all = c.args.list.now in
    let i = c.loop-number.number in
    let o = c.index-list-number.result in
    let step : st.init_arguments env (drop i ps) (expressions_of (map expression (drop i all))) ≡ st.init_arguments env (drop i ps) (expressions_of (map expression (o ∷ drop (i + 1) all))) =
    at_drop_more (λ os. st.init_arguments env (drop i ps) (expressions_of (map expression os))) all i o c.loop-number-test.true
    ∙ ap (λ p. st.init_arguments env (drop i ps) (expressions_of (map expression (p ∷ drop (i + 1) all)))) (sym c.index-list-number.is) in
    let rest = expressions_of (map expression (drop (i + 1) all)) in
    let next = arguments_step env ps i (i + 1) (expression o) rest refl in
    rest_reported c.loop-number.diagnostics c.argument.new.diagnostics (violations_of (st.init_argument env (parts.type_if (slice_get ps i)) (expression o))) (st.init_arguments env (drop (i + 1) ps) rest) _
    (rw c.parameter_type.ensures at c.argument.ensures).0 (step ∙ next) ∙ c.loop-number.invariant
