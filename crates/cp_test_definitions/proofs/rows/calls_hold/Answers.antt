use Rattle.cp_test_definitions.proofs.CallsComputed.{a_routine_without_entry_1-holds, a_routine_without_entry_2-holds, a_routine_without_entry_3-holds, a_routine_without_entry_4-holds, a_routine_without_entry_5-holds, a_routine_without_entry_6-holds, a_routine_without_entry_7-holds, a_routine_without_entry_8-holds, a_routine_without_entry_9-holds, a_routine_without_entry_10-holds, a_routine_without_entry_11-holds, a_routine_without_entry_12-holds, a_routine_without_entry_13-holds, a_routine_without_entry_14-holds, a_routine_without_entry_15-holds, a_routine_without_entry_16-holds, a_routine_without_entry_17-holds, a_routine_without_entry_18-holds, a_routine_without_entry_19-holds, a_routine_without_entry_20-holds, a_routine_without_entry_21-holds, a_routine_without_entry_22-holds, a_routine_without_entry_23-holds, a_routine_without_entry_24-holds, a_routine_without_entry_25-holds, a_routine_without_entry_26-holds, a_routine_without_entry_27-holds, a_routine_without_entry_28-holds, a_routine_without_entry_29-holds, arguments_1-holds, arguments_2-holds, arguments_3-holds, arguments_4-holds, arguments_5-holds, arguments_6-holds, arguments_7-holds, arguments_8-holds, arguments_9-holds, arguments_10-holds, arguments_11-holds, arguments_12-holds, arguments_13-holds, arguments_14-holds, arguments_15-holds, arguments_16-holds, arguments_17-holds, arguments_18-holds}
use Rattle.cp_test_definitions.proofs.rows.calls_hold.Goals as goal

pub returns : goal.returns
returns c = (a_routine_without_entry_1-holds, a_routine_without_entry_2-holds, a_routine_without_entry_3-holds, a_routine_without_entry_4-holds, a_routine_without_entry_5-holds, a_routine_without_entry_6-holds, a_routine_without_entry_7-holds, a_routine_without_entry_8-holds, a_routine_without_entry_9-holds, a_routine_without_entry_10-holds, a_routine_without_entry_11-holds, a_routine_without_entry_12-holds, a_routine_without_entry_13-holds, a_routine_without_entry_14-holds, a_routine_without_entry_15-holds, a_routine_without_entry_16-holds, a_routine_without_entry_17-holds, a_routine_without_entry_18-holds, a_routine_without_entry_19-holds, a_routine_without_entry_20-holds, a_routine_without_entry_21-holds, a_routine_without_entry_22-holds, a_routine_without_entry_23-holds, a_routine_without_entry_24-holds, a_routine_without_entry_25-holds, a_routine_without_entry_26-holds, a_routine_without_entry_27-holds, a_routine_without_entry_28-holds, a_routine_without_entry_29-holds, arguments_1-holds, arguments_2-holds, arguments_3-holds, arguments_4-holds, arguments_5-holds, arguments_6-holds, arguments_7-holds, arguments_8-holds, arguments_9-holds, arguments_10-holds, arguments_11-holds, arguments_12-holds, arguments_13-holds, arguments_14-holds, arguments_15-holds, arguments_16-holds, arguments_17-holds, arguments_18-holds)
