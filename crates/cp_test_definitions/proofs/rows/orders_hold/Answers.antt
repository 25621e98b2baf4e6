use Rattle.cp_test_definitions.proofs.OrdersComputed.{a_lawful_order_1-holds, a_single_private_step_1-holds, an_unlawful_order_1-holds, an_unlawful_order_2-holds, an_unlawful_order_3-holds, an_unlawful_order_4-holds, events_in_any_order_1-holds, events_in_any_order_2-holds}
use Rattle.cp_test_definitions.proofs.rows.orders_hold.Goals as goal

pub returns : goal.returns
returns c = (a_lawful_order_1-holds, a_single_private_step_1-holds, an_unlawful_order_1-holds, an_unlawful_order_2-holds, an_unlawful_order_3-holds, an_unlawful_order_4-holds, events_in_any_order_1-holds, events_in_any_order_2-holds)
