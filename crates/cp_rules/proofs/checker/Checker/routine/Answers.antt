use Rattle.std.proofs.Common.{◌≡◌, ◌+◌, ℕ, length, rules, ap, ◌∙◌}
use Rattle.std.proofs.lemmas.Result.{on_ok_weaker}
use Rattle.cp_model.specs.RulesTypes.{cap_words}
use Rattle.cp_model.specs.View as view
use Rattle.cp_rules.specs.Checking.{State}
use Rattle.cp_rules.proofs.RoutineParts.{routine_declared}
use Rattle.cp_rules.proofs.checker.Checker.routine.Goals as goal

pub returns : goal.returns
returns c =
    let old = c.args.self.now in
    let routine = view.routine c.args.routine.now in
    let first : c.parameter_count-first.result ≡ length c.routine_heading.new.self.env.parameters = search rules in
    let count : c.len.result ≡ length c.in_ok-heading.heading.rows.items = search rules in
    let needed = c.sum-2.ensures ∙ ap (λ (n : ℕ). cap_words (n + c.in_ok-more.more)) c.sum.ensures in
    let opened = ap (λ (z : State). z.env) c.self.view_is in
    on_ok_weaker c.finish_routine.result
    (λ finished. routine_declared old c.args.sort routine c.routine_heading.new.self c.set_from.new.self c.routine_body.new.self c.leave.new.self
    c.finish_routine.new.self c.in_ok-heading.heading c.in_ok-heading.answer c.row-row.result
    c.mark-outside.result c.mark-inside.result c.parameter_count-first.result c.len.result c.words.result c.in_ok-more.more c.sum-2.result
    c.mark-outside.ensures c.in_ok-heading.ensures first count c.row-row.ensures c.set_from.ensures c.mark-inside.ensures c.in_ok-more.ensures
    c.leave.ensures c.words.ensures needed finished)
    (rw (c.region-region.ensures, opened) at c.finish_routine.ensures)
