use Rattle.std.proofs.Common.{◌≡◌, ap, length, rules}
use Rattle.std.proofs.lemmas.Result.{on_ok_weaker}
use Rattle.cp_model.specs.View as view
use Rattle.cp_rules.specs.Checking.{State}
use Rattle.cp_rules.proofs.SystemParts.{system_defined}
use Rattle.cp_rules.proofs.checker.Checker.define_system.Goals as goal

pub returns : goal.returns
returns c =
    let y = view.system c.args.system.now in
    let first : c.parameter_count-first.result ≡ length c.system_heading.new.self.env.parameters = search rules in
    let count : c.len.result ≡ length c.in_ok-heading.heading.rows.items = search rules in
    let opened = ap (λ (z : State). z.env) c.self.view_is in
    on_ok_weaker c.finish_system.result
    (λ finished. system_defined c.args.self.now c.args.name.now y
    c.declare.new.self c.system_heading.new.self c.system_parts.new.self c.leave.new.self c.finish_system.new.self
    c.in_ok-heading.heading c.system_row-row.result c.in_ok-members.members
    c.mark-outside.result c.mark-inside.result c.parameter_count-first.result c.len.result c.in_ok-words.words
    c.mark-outside.ensures c.in_ok-declare.ensures c.mark-inside.ensures c.in_ok-heading.ensures first count c.in_ok-words.ensures
    c.system_row-row.ensures c.in_ok-members.ensures c.leave.ensures finished)
    (rw (c.region-region.ensures, opened) at c.finish_system.ensures)
