use Rattle.std.proofs.Common.{◌≡◌, ◌+◌, ◌∷◌, drop, map, ap, sym, ◌∙◌}
use Rattle.std.proofs.lemmas.List.{at_drop_more}
use Rattle.cp_model.specs.Rules.{define_section}
use Rattle.cp_model.specs.View as view
use Rattle.cp_rules.specs.Checking.{after}
use Rattle.cp_rules.specs.Definitions.{define_sections}
use Rattle.cp_rules.proofs.Defining.{rest_defined}
use Rattle.cp_rules.proofs.checker.Checker.define_sections.Goals as goal

pub loop-section-preserved : goal.loop-section-preserved
loop-section-preserved c =
    let all = c.args.sections.now in
    let i = c.loop-section.section-index in
    let old = c.loop-section.self in
    let d = (view.section_of c.section-item.result) in
    let ds = map view.section_of (drop (i + 1) all) in
    let step : map view.section_of (drop i all) ≡ d ∷ ds =
    at_drop_more (map view.section_of) all i c.section-item.result c.loop-section-test.true ∙ ap (λ e. map view.section_of (e ∷ drop (i + 1) all)) (sym c.section-item.is) in
    rest_defined define_section old c.define_section.new.self d ds c.in_ok-define_section.ensures
    ∙ sym (ap (λ es. after old (define_sections old.env es)) step) ∙ c.loop-section.invariant
