use Rattle.std.proofs.Common.{◌+◌, Bool, ap, sym, ◌∙◌}
use Rattle.cp_model.specs.declared.rules.Rule.TheVariants.{C13}
use Rattle.cp_model.specs.RulesJudged.{Violations, unless}
use Rattle.cp_model.specs.RulesTypes.{cap_words}
use Rattle.cp_model.specs.View as view
use Rattle.cp_rules_body.specs.Reports.{with_part}
use Rattle.cp_rules.specs.Checking.{State, reporting}
use Rattle.cp_rules.proofs.WholeTexts.{broken_body, sound_body}
use Rattle.cp_rules.proofs.checker.Checker.initial_body.Goals as goal

pub returns-in-Some : goal.returns-in-Some
returns-in-Some c n words =
    let old = c.args.self.now in
    let first = sym c.first.ensures ∙ c.in-Some.is in
    let body = broken_body old.diagnostics old.env n (view.body c.args.body.now) c.in-Some.field-0
    (sym (rw c.deref.ensures.value at c.in_ok-inside.ensures) ∙ first) in
    let opened = ap (λ (z : State). with_part z.diagnostics c.in_ok-inside.inside) c.self.view_is in
    let env = ap (λ (z : State). z.env) c.self.view_is in
    let diagnostics = c.report_part.ensures ∙ opened ∙ ap (with_part old.diagnostics) first ∙ body in
    λ i. record { env = env i; diagnostics = diagnostics i }

pub returns-in-None : goal.returns-in-None
returns-in-None c n words =
    let old = c.args.self.now in
    let needed = rw c.deref-in-None.ensures.value at c.need-need.ensures in
    let counted = c.sum-in-None.ensures ∙ (λ i. cap_words (c.sum.ensures i + needed i)) in
    c.unless.ensures
    ∙ ap (λ (within : Bool). reporting old (unless within C13 c.args.body.now.at)) c.is_within-fits.ensures
    ∙ ap (λ (vs : Violations). reporting old vs)
    (sound_body old.env n c.args.words c.sum-in-None.result (view.body c.args.body.now)
    (sym (rw c.deref.ensures.value at c.in_ok-inside.ensures) ∙ (sym c.first.ensures ∙ c.in-None.is)) words counted)
