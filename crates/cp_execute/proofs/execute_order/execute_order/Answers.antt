use Rattle.std.proofs.KnownBytes.{Keeps-refl}
use Rattle.std.proofs.lemmas.Result.{err_from_is_err_and, on_ok_weaker}
use Rattle.cp_model.specs.Input.{cut}
use Rattle.cp_model.specs.View as view
use Rattle.cp_model.proofs.Results.{if_err, on_err}
use Rattle.cp_execute.specs.Replayed.{IsReplayed, RefusesOrder}
use Rattle.cp_frontend.specs.Refusals.{of_read}
use Rattle.cp_frontend.specs.Takings.{concern}
use Rattle.cp_execute.proofs.OrderRefusals.{input_refused, order_refused, order_unread, refuses_order_of, replay_refused_input, replay_refused_order, replay_refused_text, text_refused, write_refused}
use Rattle.cp_execute.proofs.OrdersDue.{input_is_fit, replay_due}
use Rattle.cp_frontend.proofs.Takings.{input_before, input_kept, input_written, no_write_of_input, no_write_of_order, no_write_of_text, order_after_input, order_after_text, order_at, order_failed, order_written, text_at, text_taken}
use Rattle.cp_execute.proofs.execute_order.execute_order.Goals as goal

-- ---- the text is refused

pub returns-in_err-accepted-clause-beginning : goal.returns-in_err-accepted-clause-beginning
returns-in_err-accepted-clause-beginning g c =
    let p = err_from_is_err_and c.from_residual.result c.from_residual.ensures.1 in
    rw (p.1, p.2) (λ write. absurd (no_write_of_text c.in_err-accepted.field-0.0 c.in_err-accepted.ensures.about_text write))

pub returns-in_err-accepted-clause-refused : goal.returns-in_err-accepted-clause-refused
returns-in_err-accepted-clause-refused g c =
    let p = err_from_is_err_and c.from_residual.result c.from_residual.ensures.1 in
    rw (p.1, p.2) (λ other. replay_refused_text (g.R.Read.remaining c.args.text.now) (g.S.Read.remaining c.args.input.now) (g.O.Read.remaining c.args.order.now) c.in_err-accepted.field-0.0 c.in_err-accepted.ensures.refused)

pub returns-in_err-accepted-clause-accepted : goal.returns-in_err-accepted-clause-accepted
returns-in_err-accepted-clause-accepted g c =
    let p = err_from_is_err_and c.from_residual.result c.from_residual.ensures.1 in
    rw (p.1, p.2) (text_refused (g.R.Read.remaining c.args.text.now) c.in_err-accepted.field-0.0 c.in_err-accepted.ensures.refused)

pub returns-in_err-accepted-clause-text : goal.returns-in_err-accepted-clause-text
returns-in_err-accepted-clause-text g c =
    let p = err_from_is_err_and c.from_residual.result c.from_residual.ensures.1 in
    rw (p.1, p.2) c.in_err-accepted.ensures.taken

pub returns-in_err-accepted-clause-input : goal.returns-in_err-accepted-clause-input
returns-in_err-accepted-clause-input g c =
    let p = err_from_is_err_and c.from_residual.result c.from_residual.ensures.1 in
    rw (p.1, p.2) (input_kept (g.S.Read.remaining c.args.input.now) (g.S.Read.remaining c.args.input.now) (concern c.in_err-accepted.field-0.0) c.in_err-accepted.ensures.about_text (Keeps-refl (g.S.Read.remaining c.args.input.now)))

pub returns-in_err-accepted-clause-order : goal.returns-in_err-accepted-clause-order
returns-in_err-accepted-clause-order g c =
    let p = err_from_is_err_and c.from_residual.result c.from_residual.ensures.1 in
    rw (p.1, p.2) (order_after_text (g.O.Read.remaining c.args.order.now) (g.O.Read.remaining c.args.order.now) (concern c.in_err-accepted.field-0.0) c.in_err-accepted.ensures.about_text (Keeps-refl (g.O.Read.remaining c.args.order.now)))

-- ---- the input is refused

pub returns-in_err-bytes-clause-beginning : goal.returns-in_err-bytes-clause-beginning
returns-in_err-bytes-clause-beginning g c =
    let p = err_from_is_err_and c.from_residual-in_err-bytes.result c.from_residual-in_err-bytes.ensures.1 in
    rw (p.1, p.2) (λ write. absurd (no_write_of_input c.in_err-bytes.field-0.0 c.in_err-bytes.ensures.refused.0 write))

pub returns-in_err-bytes-clause-refused : goal.returns-in_err-bytes-clause-refused
returns-in_err-bytes-clause-refused g c =
    let p = err_from_is_err_and c.from_residual-in_err-bytes.result c.from_residual-in_err-bytes.ensures.1 in
    rw (p.1, p.2) (λ other. replay_refused_input (g.R.Read.remaining c.args.text.now) (g.S.Read.remaining c.args.input.now) (g.O.Read.remaining c.args.order.now) (view.tree c.in_ok-accepted.accepted.tree) c.in_err-bytes.field-0.0
    c.in_ok-accepted.ensures.text c.in_err-bytes.ensures.refused)

pub returns-in_err-bytes-clause-accepted : goal.returns-in_err-bytes-clause-accepted
returns-in_err-bytes-clause-accepted g c =
    let p = err_from_is_err_and c.from_residual-in_err-bytes.result c.from_residual-in_err-bytes.ensures.1 in
    rw (p.1, p.2) (input_refused (g.R.Read.remaining c.args.text.now) c.in_err-bytes.field-0.0 c.in_err-bytes.ensures.refused.0)

pub returns-in_err-bytes-clause-text : goal.returns-in_err-bytes-clause-text
returns-in_err-bytes-clause-text g c =
    let p = err_from_is_err_and c.from_residual-in_err-bytes.result c.from_residual-in_err-bytes.ensures.1 in
    rw (p.1, p.2) (text_at _ _ (concern c.in_err-bytes.field-0.0) c.in_ok-accepted.ensures.taken)

pub returns-in_err-bytes-clause-input : goal.returns-in_err-bytes-clause-input
returns-in_err-bytes-clause-input g c =
    let p = err_from_is_err_and c.from_residual-in_err-bytes.result c.from_residual-in_err-bytes.ensures.1 in
    rw (p.1, p.2) c.in_err-bytes.ensures.taken

pub returns-in_err-bytes-clause-order : goal.returns-in_err-bytes-clause-order
returns-in_err-bytes-clause-order g c =
    let p = err_from_is_err_and c.from_residual-in_err-bytes.result c.from_residual-in_err-bytes.ensures.1 in
    rw (p.1, p.2) (order_after_input (g.O.Read.remaining c.args.order.now) (g.O.Read.remaining c.args.order.now) (concern c.in_err-bytes.field-0.0) c.in_err-bytes.ensures.refused.0 (Keeps-refl (g.O.Read.remaining c.args.order.now)))

-- ---- the order isn't read

pub returns-in_err-events-clause-beginning : goal.returns-in_err-events-clause-beginning
returns-in_err-events-clause-beginning g c =
    let p = err_from_is_err_and c.from_residual-in_err-events.result c.from_residual-in_err-events.ensures.1 in
    let unread = order_unread (g.O.Read.remaining c.args.order.now) (view.tree c.in_ok-accepted.accepted.tree) c.in_err-events.field-0.0 in
    rw (p.1, p.2) (λ write. absurd (no_write_of_order _ unread.0 write))

pub returns-in_err-events-clause-refused : goal.returns-in_err-events-clause-refused
returns-in_err-events-clause-refused g c =
    let p = err_from_is_err_and c.from_residual-in_err-events.result c.from_residual-in_err-events.ensures.1 in
    let unread = order_unread (g.O.Read.remaining c.args.order.now) (view.tree c.in_ok-accepted.accepted.tree) c.in_err-events.field-0.0 in
    rw (p.1, p.2) (λ other. replay_refused_order (g.R.Read.remaining c.args.text.now) (g.S.Read.remaining c.args.input.now) (g.O.Read.remaining c.args.order.now) (view.tree c.in_ok-accepted.accepted.tree) _ c.in_ok-accepted.ensures.text
    (input_is_fit (g.S.Read.remaining c.args.input.now) c.in_ok-bytes.bytes.items c.in_ok-bytes.ensures.input c.in_ok-bytes.ensures.judged) unread)

pub returns-in_err-events-clause-accepted : goal.returns-in_err-events-clause-accepted
returns-in_err-events-clause-accepted g c =
    let p = err_from_is_err_and c.from_residual-in_err-events.result c.from_residual-in_err-events.ensures.1 in
    let unread = order_unread (g.O.Read.remaining c.args.order.now) (view.tree c.in_ok-accepted.accepted.tree) c.in_err-events.field-0.0 in
    rw (p.1, p.2) (order_refused (g.R.Read.remaining c.args.text.now) _ unread.0)

pub returns-in_err-events-clause-text : goal.returns-in_err-events-clause-text
returns-in_err-events-clause-text g c =
    let p = err_from_is_err_and c.from_residual-in_err-events.result c.from_residual-in_err-events.ensures.1 in
    rw (p.1, p.2) (text_at _ _ (concern (of_read c.in_err-events.field-0.0)) c.in_ok-accepted.ensures.taken)

pub returns-in_err-events-clause-input : goal.returns-in_err-events-clause-input
returns-in_err-events-clause-input g c =
    let p = err_from_is_err_and c.from_residual-in_err-events.result c.from_residual-in_err-events.ensures.1 in
    let unread = order_unread (g.O.Read.remaining c.args.order.now) (view.tree c.in_ok-accepted.accepted.tree) c.in_err-events.field-0.0 in
    rw (p.1, p.2) (input_before _ _ (concern (of_read c.in_err-events.field-0.0)) unread.0 c.in_ok-bytes.ensures.taken)

pub returns-in_err-events-clause-order : goal.returns-in_err-events-clause-order
returns-in_err-events-clause-order g c =
    let p = err_from_is_err_and c.from_residual-in_err-events.result c.from_residual-in_err-events.ensures.1 in
    rw (p.1, p.2) (order_failed _ _ c.in_err-events.field-0.0 c.in_err-events.ensures.taken)

-- ---- the order is refused, or memory runs out in the replay

pub returns-in_err-report-clause-beginning : goal.returns-in_err-report-clause-beginning
returns-in_err-report-clause-beginning g c =
    let p = err_from_is_err_and c.from_residual-in_err-report.result c.from_residual-in_err-report.ensures.1 in
    let reported : RefusesOrder (view.tree c.in_ok-accepted.accepted.tree) c.in_ok-events.events.items c.in_err-report.field-0.0 = rw c.deref.ensures.value at c.in_err-report.ensures.refused in
    let refused = refuses_order_of (g.O.Read.remaining c.args.order.now) (view.tree c.in_ok-accepted.accepted.tree) c.in_ok-events.events.items c.in_err-report.field-0.0 c.in_ok-events.ensures.bytes reported in
    rw (p.1, p.2) (λ write. absurd (no_write_of_order c.in_err-report.field-0.0 refused.0 write))

pub returns-in_err-report-clause-refused : goal.returns-in_err-report-clause-refused
returns-in_err-report-clause-refused g c =
    let p = err_from_is_err_and c.from_residual-in_err-report.result c.from_residual-in_err-report.ensures.1 in
    let reported : RefusesOrder (view.tree c.in_ok-accepted.accepted.tree) c.in_ok-events.events.items c.in_err-report.field-0.0 = rw c.deref.ensures.value at c.in_err-report.ensures.refused in
    let refused = refuses_order_of (g.O.Read.remaining c.args.order.now) (view.tree c.in_ok-accepted.accepted.tree) c.in_ok-events.events.items c.in_err-report.field-0.0 c.in_ok-events.ensures.bytes reported in
    rw (p.1, p.2) (λ other. replay_refused_order (g.R.Read.remaining c.args.text.now) (g.S.Read.remaining c.args.input.now) (g.O.Read.remaining c.args.order.now) (view.tree c.in_ok-accepted.accepted.tree) c.in_err-report.field-0.0 c.in_ok-accepted.ensures.text
    (input_is_fit (g.S.Read.remaining c.args.input.now) c.in_ok-bytes.bytes.items c.in_ok-bytes.ensures.input c.in_ok-bytes.ensures.judged) refused)

pub returns-in_err-report-clause-accepted : goal.returns-in_err-report-clause-accepted
returns-in_err-report-clause-accepted g c =
    let p = err_from_is_err_and c.from_residual-in_err-report.result c.from_residual-in_err-report.ensures.1 in
    let reported : RefusesOrder (view.tree c.in_ok-accepted.accepted.tree) c.in_ok-events.events.items c.in_err-report.field-0.0 = rw c.deref.ensures.value at c.in_err-report.ensures.refused in
    let refused = refuses_order_of (g.O.Read.remaining c.args.order.now) (view.tree c.in_ok-accepted.accepted.tree) c.in_ok-events.events.items c.in_err-report.field-0.0 c.in_ok-events.ensures.bytes reported in
    rw (p.1, p.2) (order_refused (g.R.Read.remaining c.args.text.now) c.in_err-report.field-0.0 refused.0)

pub returns-in_err-report-clause-text : goal.returns-in_err-report-clause-text
returns-in_err-report-clause-text g c =
    let p = err_from_is_err_and c.from_residual-in_err-report.result c.from_residual-in_err-report.ensures.1 in
    rw (p.1, p.2) (text_at _ _ (concern c.in_err-report.field-0.0) c.in_ok-accepted.ensures.taken)

pub returns-in_err-report-clause-input : goal.returns-in_err-report-clause-input
returns-in_err-report-clause-input g c =
    let p = err_from_is_err_and c.from_residual-in_err-report.result c.from_residual-in_err-report.ensures.1 in
    let reported : RefusesOrder (view.tree c.in_ok-accepted.accepted.tree) c.in_ok-events.events.items c.in_err-report.field-0.0 = rw c.deref.ensures.value at c.in_err-report.ensures.refused in
    let refused = refuses_order_of (g.O.Read.remaining c.args.order.now) (view.tree c.in_ok-accepted.accepted.tree) c.in_ok-events.events.items c.in_err-report.field-0.0 c.in_ok-events.ensures.bytes reported in
    rw (p.1, p.2) (input_before _ _ (concern c.in_err-report.field-0.0) refused.0 c.in_ok-bytes.ensures.taken)

pub returns-in_err-report-clause-order : goal.returns-in_err-report-clause-order
returns-in_err-report-clause-order g c =
    let p = err_from_is_err_and c.from_residual-in_err-report.result c.from_residual-in_err-report.ensures.1 in
    let reported : RefusesOrder (view.tree c.in_ok-accepted.accepted.tree) c.in_ok-events.events.items c.in_err-report.field-0.0 = rw c.deref.ensures.value at c.in_err-report.ensures.refused in
    let refused = refuses_order_of (g.O.Read.remaining c.args.order.now) (view.tree c.in_ok-accepted.accepted.tree) c.in_ok-events.events.items c.in_err-report.field-0.0 c.in_ok-events.ensures.bytes reported in
    rw (p.1, p.2) (order_at _ _ (concern c.in_err-report.field-0.0) refused.0 c.in_ok-events.ensures.front)

-- ---- the report is written

pub returns-clause-done : goal.returns-clause-done
returns-clause-done g c =
    let made : IsReplayed c.args.replay.now (view.tree c.in_ok-accepted.accepted.tree) (cut c.in_ok-bytes.bytes.items) c.in_ok-events.events.items c.in_ok-report.report.items =
    rw c.deref.ensures.value at c.in_ok-report.ensures.report in
    on_ok_weaker c.write_result.result
    (λ written. replay_due c.args.replay.now (g.R.Read.remaining c.args.text.now) (g.S.Read.remaining c.args.input.now) (g.O.Read.remaining c.args.order.now) (view.tree c.in_ok-accepted.accepted.tree)
    c.in_ok-bytes.bytes.items c.in_ok-events.events.items c.in_ok-report.report.items _ c.in_ok-accepted.ensures.text c.in_ok-bytes.ensures.input
    c.in_ok-bytes.ensures.judged c.in_ok-events.ensures.bytes made written)
    (rw c.deref-2.ensures.value at c.write_result.ensures.whole)

pub returns-clause-beginning : goal.returns-clause-beginning
returns-clause-beginning g c =
    let made : IsReplayed c.args.replay.now (view.tree c.in_ok-accepted.accepted.tree) (cut c.in_ok-bytes.bytes.items) c.in_ok-events.events.items c.in_ok-report.report.items =
    rw c.deref.ensures.value at c.in_ok-report.ensures.report in
    on_err c.write_result.result
    (λ e begun write. replay_due c.args.replay.now (g.R.Read.remaining c.args.text.now) (g.S.Read.remaining c.args.input.now) (g.O.Read.remaining c.args.order.now) (view.tree c.in_ok-accepted.accepted.tree)
    c.in_ok-bytes.bytes.items c.in_ok-events.events.items c.in_ok-report.report.items _ c.in_ok-accepted.ensures.text c.in_ok-bytes.ensures.input
    c.in_ok-bytes.ensures.judged c.in_ok-events.ensures.bytes made begun)
    (rw c.deref-2.ensures.value at c.write_result.ensures.beginning)

pub returns-clause-accepted : goal.returns-clause-accepted
returns-clause-accepted g c = if_err c.write_result.result (λ e write. write_refused (g.R.Read.remaining c.args.text.now) e write) c.write_result.ensures.write

pub returns-clause-text : goal.returns-clause-text
returns-clause-text g c = text_taken c.write_result.result _ _ c.in_ok-accepted.ensures.taken

pub returns-clause-input : goal.returns-clause-input
returns-clause-input g c = input_written c.write_result.result _ _ c.in_ok-bytes.ensures.taken c.write_result.ensures.write

pub returns-clause-order : goal.returns-clause-order
returns-clause-order g c = order_written c.write_result.result _ _ c.in_ok-events.ensures.front c.write_result.ensures.write
