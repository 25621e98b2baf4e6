use Rattle.std.proofs.Common.{ap, sym, ◌∙◌}
use Rattle.cp_model.specs.View as view
use Rattle.cp_rules.specs.Checking.{State}
use Rattle.cp_rules.proofs.WholeTexts.{none_reported}
use Rattle.cp_rules.proofs.text.judge.Goals as goal

pub returns : goal.returns
returns c =
    let diagnostics = ap (λ (z : State). z.diagnostics) c.checker.view_is ∙ c.in-Ok.ensures in
    none_reported (view.tree c.args.tree.now) (sym diagnostics ∙ sym c.first.ensures ∙ c.in-None.is)
