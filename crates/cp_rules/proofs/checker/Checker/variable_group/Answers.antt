use Rattle.std.proofs.Common.{◌≡◌, ap, length, rules}
use Rattle.cp_model.specs.Syntax as s
use Rattle.cp_model.specs.View as view
use Rattle.cp_model.proofs.TypeViews.{view_fields}
use Rattle.cp_rules.specs.Checking.{State}
use Rattle.cp_rules.proofs.Groups.{group_declared}
use Rattle.cp_rules.proofs.checker.Checker.variable_group.Goals as goal

pub returns : goal.returns
returns c =
    let group = c.args.group.now in
    let g : s.Variables = record { names = group.names.items; of = view.type_expression group.of } in
    let count : c.len.result ≡ length group.names.items = search rules in
    let opened = ap (λ (z : State). z.env) c.self.view_is in
    rw (view_fields group)
    (group_declared c.args.self.now c.args.position g c.declare_all.new.self c.judge_type.new.self c.set_from.new.self c.owners.new.self
    c.mark-outside.result c.in_ok-of.of c.entity.result c.words-each.result c.product.result
    c.mark-outside.ensures (rw c.deref.ensures.value at c.in_ok-declare_all.ensures) c.in_ok-of.ensures
    (rw opened at c.words-each.ensures) c.entity.ensures c.set_from.ensures
    (rw c.deref-2.ensures.value at c.owners.ensures) (rw count at c.product.ensures))
