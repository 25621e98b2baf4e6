use Rattle.std.proofs.Common.{rules, ap}
use Rattle.std.proofs.lemmas.Result.{err_from_is_err_and}
use Rattle.cp_base_schedule.specs.Reading.{Refuses}
use Rattle.cp_execute.specs.Replayed.{rounds_reported}
use Rattle.cp_execute.proofs.OrderRefusals.{order_refused_for}
use Rattle.cp_execute.proofs.replaying.orders_of.Goals as goal

pub returns-in_err-orders-clause-refused : goal.returns-in_err-orders-clause-refused
returns-in_err-orders-clause-refused c =
    let p = err_from_is_err_and c.from_residual.result c.from_residual.ensures.1 in
    let reported : Refuses c.args.processes c.args.order.now c.in_err-orders.field-0.0 = search rules in
    rw (p.1, p.2) (order_refused_for c.args.processes c.args.order.now c.in_err-orders.field-0.0 reported)

pub returns-clause-order : goal.returns-clause-order
returns-clause-order c = ap rounds_reported c.in_ok-orders.ensures.ok
