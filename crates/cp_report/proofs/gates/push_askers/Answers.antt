use Rattle.std.proofs.Common.{rules, ◌≤◌, ◌++◌, length, ap, ◌∙◌}
use Rattle.std.proofs.lemmas.Result.{on_ok_weaker}
use Rattle.cp_report.proofs.Numbers.{askers_are}
use Rattle.cp_report.proofs.gates.push_askers.Goals as goal

pub returns-else-is_empty : goal.returns-else-is_empty
returns-else-is_empty c =
    let some : 1 ≤ length c.args.askers.now = search rules in
    on_ok_weaker c.push_numbers.result (λ reported. reported ∙ ap (λ t. c.args.out.now.items ++ t) (askers_are c.args.askers.now some)) c.push_numbers.ensures
