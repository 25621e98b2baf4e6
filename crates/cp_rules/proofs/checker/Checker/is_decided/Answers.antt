use Rattle.std.proofs.Common.{ap, sym, ◌∙◌}
use Rattle.cp_rules_cutoff.specs.Later.{environment_later}
use Rattle.cp_rules.specs.Checking.{State}
use Rattle.cp_rules.specs.Endings.{rest_of}
use Rattle.cp_rules.proofs.EarlyEnds.{decided}
use Rattle.cp_rules.proofs.checker.Checker.is_decided.Goals as goal

pub returns-then-is_environment_later : goal.returns-then-is_environment_later
returns-then-is_environment_later c known =
    let first = c.in-Some.first in
    let later = sym c.is_environment_later.ensures ∙ c.if-is_environment_later.true in
    decided c.args.self.now first (rest_of c.args.left.now)
    (sym (ap (λ (z : State). z.diagnostics) c.self.view_is) ∙ sym c.first.ensures ∙ c.in-Some.is)
    (sym (ap (λ (z : State). environment_later first z.env) c.self.view_is) ∙ later)
    (sym c.is_after.ensures ∙ known)
