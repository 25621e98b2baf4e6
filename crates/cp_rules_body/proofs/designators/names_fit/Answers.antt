use Rattle.std.proofs.Common.{◌≡◌, ◌&&◌, ◌++◌, ap, sym, ◌∙◌}
use Rattle.cp_model.specs.RulesNames as n
use Rattle.cp_model.specs.View.{designator}
use Rattle.cp_rules_body.proofs.Reports.{append_reported}
use Rattle.cp_rules_body.proofs.designators.names_fit.Goals as goal

pub returns-else-entry : goal.returns-else-entry
returns-else-entry c =
    let env = c.args.env.now in
    let d = designator c.args.designated.now in
    let mode = c.args.mode in
    let no_type = c.no_indexed_type-no_type.result in
    let entry = c.entry_after_point-entry.result in
    let no_queue = c.queue_in_place-no_queue.result in
    let t1 = c.no_indexed_type-no_type.new.diagnostics in
    let t2 = c.entry_after_point-entry.new.diagnostics in
    let t3 = c.queue_in_place-no_queue.new.diagnostics in
    let queue = rw c.first_name.ensures at c.queue_in_place-no_queue.ensures in
    let before = append_reported c.args.diagnostics.now t1 t2 no_type entry (n.c2_before_index env mode d) (n.c5_after_point env d)
    c.no_indexed_type-no_type.ensures c.entry_after_point-entry.ensures in
    let whole = append_reported c.args.diagnostics.now t2 t3 (no_type && entry) no_queue (n.c2_before_index env mode d ++ n.c5_after_point env d) (n.c8_named env mode (n.first_name d))
    before queue in
    let answer : ((no_type && entry) && no_queue) ≡ entry =
    ap (λ b. (b && entry) && no_queue) c.if-no_type.true ∙ ap (λ b. b && no_queue) c.if-entry.false ∙ sym c.if-entry.false in
    (whole.0, sym answer ∙ whole.1)
