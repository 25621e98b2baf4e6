use Rattle.std.proofs.Common.{◌≡◌, ap, ◌∙◌}
use Rattle.cp_model.specs.RulesDeclarations as d
use Rattle.cp_model.specs.View as view
use Rattle.cp_rules.specs.Checking.{State}
use Rattle.cp_rules.specs.Headings.{collection}
use Rattle.cp_rules.specs.Routines.{enter_region, inside, region_of}
use Rattle.cp_rules.proofs.RoutineParts.{body_judged}
use Rattle.cp_rules.proofs.checker.Checker.routine_body.Goals as goal

pub returns : goal.returns
returns c =
    let old = c.args.self.now in
    let y = c.args.sort in
    let routine = view.routine c.args.routine.now in
    let k = collection c.args.heading.now in
    let entering : c.enter.new.self ≡ record old { env = enter_region old.env k.rows (region_of y routine) } =
    rw (c.part.ensures, c.deref.ensures.value) at c.in_ok-enter.ensures in
    let within : c.add_each.new.self ≡ record old { env = inside old.env y routine k } =
    rw c.deref-2.ensures.value at c.in_ok-add_each.ensures
    ∙ ap (λ (z : State). let st : State = record z { env = (d.declare_each z.env k.bound).env } in st) entering in
    body_judged old y routine k c.add_each.new.self c.variables.new.self c.statements.new.self
    c.in_ok-words.words c.need.result c.sum.result
    within (rw c.deref-3.ensures.value at c.in_ok-words.ensures) (rw c.deref-4.ensures.value at c.in_ok-statements.ensures)
    (rw c.deref-5.ensures.value at c.need.ensures) c.sum.ensures
