use Rattle.std.proofs.Common.{◌≡◌, ap, length, rules}
use Rattle.cp_model.specs.View as view
use Rattle.cp_rules.specs.Checking.{State}
use Rattle.cp_rules.specs.Headings.{collection}
use Rattle.cp_rules.proofs.HeadingGroups.{group_collected}
use Rattle.cp_rules.proofs.checker.Checker.parameter_group.Goals as goal

pub returns-clause-heading : goal.returns-clause-heading
returns-clause-heading c =
    let group = c.args.group.now in
    let count : c.len.result ≡ length group.names.items = search rules in
    let opened = ap (λ (z : State). z.env) c.self.view_is in
    group_collected c.args.self.now c.args.of c.args.is_function (view.parameters group)
    (collection c.args.heading.now) (collection c.add.new.self) c.group_of_parameters.new.self c.in_ok-t.t c.entity.result c.row.result
    c.parameter_words-each.result c.product.result c.sum-heading.result
    c.in_ok-t.ensures.0 c.in_ok-t.ensures.1
    (rw c.is_by_reference-by_reference.ensures at c.entity.ensures) (rw c.is_by_reference-by_reference.ensures at c.row.ensures)
    (rw (c.is_by_reference-by_reference.ensures, opened) at c.parameter_words-each.ensures)
    (rw count at c.product.ensures) (search rules) (rw c.deref.ensures.value at c.in_ok-add.ensures)
