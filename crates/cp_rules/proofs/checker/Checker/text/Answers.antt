use Rattle.std.proofs.Common.{Option, ap, sym, ◌∙◌}
use Rattle.cp_model.specs.View as view
use Rattle.cp_model.specs.declared.rules.Violation.{Violation}
use Rattle.cp_model.specs.RulesEnvironment.{standard_environment}
use Rattle.cp_rules.specs.Checking.{State}
use Rattle.cp_rules.proofs.UntilBroken.{whole_reported}
use Rattle.cp_rules.proofs.checker.Checker.text.Goals as goal

pub returns-then-is_decided : goal.returns-then-is_decided
returns-then-is_decided c =
    let begun = c.in_ok-checker.ensures
    ∙ ap (λ (t : Option Violation). let st : State = record { env = standard_environment; diagnostics = t } in st) c.requires.nothing in
    sym (c.is_decided.ensures c.if-is_decided.true) ∙ c.in_ok-left.ensures ∙ whole_reported (view.tree c.args.tree.now) c.in_ok-checker.checker begun

pub returns : goal.returns
returns c =
    let begun = c.in_ok-checker.ensures
    ∙ ap (λ (t : Option Violation). let st : State = record { env = standard_environment; diagnostics = t } in st) c.requires.nothing in
    c.in_ok-judge_left.ensures ∙ c.in_ok-left.ensures ∙ whole_reported (view.tree c.args.tree.now) c.in_ok-checker.checker begun
