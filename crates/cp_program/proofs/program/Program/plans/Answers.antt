use Rattle.std.proofs.Common.{rules, ◌≡◌, ◌∙◌, [], length, sym}
use Rattle.cp_program.proofs.PlansKnown.{plans_length}
use Rattle.cp_program.proofs.program.Program.plans.Goals as goal

pub returns : goal.returns
returns c =
    let count : c.len.result ≡ length c.args.self.now.plans.items = search rules in
    count ∙ sym (plans_length [] c.args.self.now.plans.items)
