use Rattle.cp_model.specs.View as view
use Rattle.cp_rules.proofs.SystemParts.{system_headed}
use Rattle.cp_rules.proofs.checker.Checker.system_heading.Goals as goal

pub returns : goal.returns
returns c =
    system_headed c.args.self.now (view.system c.args.system.now) c.heading.new.self c.leave.new.self c.in_ok-heading.heading c.mark-outside.result
    c.mark-outside.ensures (rw c.deref.ensures.value at c.in_ok-heading.ensures) c.leave.ensures
