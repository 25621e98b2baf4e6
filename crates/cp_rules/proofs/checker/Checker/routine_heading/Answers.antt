use Rattle.std.proofs.Common.{◌≡◌, is_some, rules}
use Rattle.cp_model.specs.View as view
use Rattle.cp_rules.proofs.RoutineParts.{routine_headed}
use Rattle.cp_rules.proofs.checker.Checker.routine_heading.Goals as goal

pub returns : goal.returns
returns c =
    let function : c.is_some-is_function.result ≡ is_some c.args.routine.now.result_type = search rules in
    routine_headed c.args.self.now c.args.sort (view.routine c.args.routine.now)
    c.declare.new.self c.judge_entry.new.self c.heading.new.self c.result_type-answer.new.self c.leave.new.self
    c.in_ok-heading.heading c.result_type-answer.result c.mark-inside.result
    c.in_ok-declare.ensures c.mark-inside.ensures c.judge_entry.ensures (rw (c.deref.ensures.value, function) at c.in_ok-heading.ensures)
    c.result_type-answer.ensures c.leave.ensures
