use Rattle.cp_test_definitions.proofs.ClockComputed.{waiting_for_a_tick_1-holds, waiting_for_a_tick_2-holds, waiting_for_a_tick_3-holds, waiting_for_a_tick_4-holds, waiting_in_a_replay_1-holds, waiting_twice_1-holds, waiting_twice_2-holds}
use Rattle.cp_test_definitions.proofs.rows.clock_hold.Goals as goal

pub returns : goal.returns
returns c = (waiting_for_a_tick_1-holds, waiting_for_a_tick_2-holds, waiting_for_a_tick_3-holds, waiting_for_a_tick_4-holds, waiting_in_a_replay_1-holds, waiting_twice_1-holds, waiting_twice_2-holds)
