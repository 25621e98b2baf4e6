use Rattle.std.proofs.Common.{◌≡◌, ap, ◌∙◌}
use Rattle.cp_model.specs.RulesDeclarations as d
use Rattle.cp_model.specs.View as view
use Rattle.cp_rules.specs.Checking.{State}
use Rattle.cp_rules.specs.Headings.{collection}
use Rattle.cp_rules.specs.Systems.{inside}
use Rattle.cp_rules.proofs.SystemParts.{parts_judged}
use Rattle.cp_rules.proofs.checker.Checker.system_parts.Goals as goal

pub returns : goal.returns
returns c =
    let old = c.args.self.now in
    let y = view.system c.args.system.now in
    let k = collection c.args.heading.now in
    let within : c.add_each.new.self ≡ record old { env = inside old.env y k } =
    rw c.deref-2.ensures.value at c.in_ok-add_each.ensures
    ∙ ap (λ (z : State). let st : State = record z { env = (d.declare_each z.env k.bound).env } in st) (rw c.deref.ensures.value at c.in_ok-enter.ensures) in
    parts_judged old y k c.add_each.new.self c.variables.new.self c.routines.new.self c.statements.new.self c.in_ok-words.words
    within (rw (c.deref-3.ensures.value, c.variable_position.ensures) at c.in_ok-words.ensures) (rw c.deref-4.ensures.value at c.in_ok-routines.ensures)
    (rw c.deref-5.ensures.value at c.in_ok-statements.ensures)
