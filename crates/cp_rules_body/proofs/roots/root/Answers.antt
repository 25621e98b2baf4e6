use Rattle.std.proofs.Common.{map}
use Rattle.cp_model.specs.RulesEnvironment as r
use Rattle.cp_model.specs.RulesNames as n
use Rattle.cp_model.specs.View.{selector, selectors_of}
use Rattle.cp_rules_body.proofs.Reports.{then_some}
use Rattle.cp_rules_body.proofs.roots.root.Goals as goal

pub returns : goal.returns
returns c =
    let env = c.args.env.now in
    let x = c.args.designator.now.root in
    let ss = selectors_of (map selector c.args.designator.now.selectors.items) in
    then_some (n.before_selectors env x ss) c.args.diagnostics.now c.judge_name.new.diagnostics (r.c1_named env x) c.before_selectors.new.diagnostics c.in_ok-entity.entity c.before_selectors.result
    c.in_ok-entity.ensures (rw c.deref.ensures.value at c.before_selectors.ensures)
