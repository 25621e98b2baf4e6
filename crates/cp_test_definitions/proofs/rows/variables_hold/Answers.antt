use Rattle.cp_test_definitions.proofs.VariablesComputed.{parts_and_values_1-holds, parts_and_values_2-holds, parts_and_values_3-holds, parts_and_values_4-holds, parts_and_values_5-holds, parts_and_values_6-holds, parts_and_values_7-holds, parts_and_values_8-holds, parts_and_values_9-holds, parts_and_values_10-holds, parts_and_values_11-holds, parts_and_values_12-holds, parts_and_values_13-holds, parts_and_values_14-holds, parts_and_values_15-holds, parts_and_values_16-holds, parts_and_values_17-holds, parts_and_values_18-holds, parts_and_values_19-holds, parts_and_values_20-holds, parts_and_values_21-holds, parts_and_values_22-holds, parts_and_values_23-holds, parts_and_values_24-holds, parts_and_values_25-holds, parts_and_values_26-holds, parts_and_values_27-holds, parts_and_values_28-holds, parts_and_values_29-holds, parts_and_values_30-holds, parts_and_values_31-holds, parts_and_values_32-holds, parts_and_values_33-holds, parts_and_values_34-holds, parts_and_values_35-holds, parts_and_values_36-holds, parts_and_values_37-holds, parts_and_values_38-holds, what_may_be_changed_1-holds, what_may_be_changed_2-holds, what_may_be_changed_3-holds, what_may_be_changed_4-holds, what_may_be_changed_5-holds, what_may_be_changed_6-holds, what_may_be_changed_7-holds, what_may_be_changed_8-holds, what_may_be_changed_9-holds, what_may_be_changed_10-holds, what_may_be_changed_11-holds, what_may_be_changed_12-holds, what_may_be_changed_13-holds, what_may_be_changed_14-holds, what_may_be_changed_15-holds, what_may_be_changed_16-holds, what_may_be_changed_17-holds, what_may_be_changed_18-holds, what_may_be_changed_19-holds, what_may_be_changed_20-holds, what_may_be_changed_21-holds, what_may_be_changed_22-holds, what_may_be_changed_23-holds, what_may_be_changed_24-holds, what_may_be_changed_25-holds, what_may_be_changed_26-holds, what_may_be_changed_27-holds, what_may_be_changed_28-holds}
use Rattle.cp_test_definitions.proofs.rows.variables_hold.Goals as goal

pub returns : goal.returns
returns c = (parts_and_values_1-holds, parts_and_values_2-holds, parts_and_values_3-holds, parts_and_values_4-holds, parts_and_values_5-holds, parts_and_values_6-holds, parts_and_values_7-holds, parts_and_values_8-holds, parts_and_values_9-holds, parts_and_values_10-holds, parts_and_values_11-holds, parts_and_values_12-holds, parts_and_values_13-holds, parts_and_values_14-holds, parts_and_values_15-holds, parts_and_values_16-holds, parts_and_values_17-holds, parts_and_values_18-holds, parts_and_values_19-holds, parts_and_values_20-holds, parts_and_values_21-holds, parts_and_values_22-holds, parts_and_values_23-holds, parts_and_values_24-holds, parts_and_values_25-holds, parts_and_values_26-holds, parts_and_values_27-holds, parts_and_values_28-holds, parts_and_values_29-holds, parts_and_values_30-holds, parts_and_values_31-holds, parts_and_values_32-holds, parts_and_values_33-holds, parts_and_values_34-holds, parts_and_values_35-holds, parts_and_values_36-holds, parts_and_values_37-holds, parts_and_values_38-holds, what_may_be_changed_1-holds, what_may_be_changed_2-holds, what_may_be_changed_3-holds, what_may_be_changed_4-holds, what_may_be_changed_5-holds, what_may_be_changed_6-holds, what_may_be_changed_7-holds, what_may_be_changed_8-holds, what_may_be_changed_9-holds, what_may_be_changed_10-holds, what_may_be_changed_11-holds, what_may_be_changed_12-holds, what_may_be_changed_13-holds, what_may_be_changed_14-holds, what_may_be_changed_15-holds, what_may_be_changed_16-holds, what_may_be_changed_17-holds, what_may_be_changed_18-holds, what_may_be_changed_19-holds, what_may_be_changed_20-holds, what_may_be_changed_21-holds, what_may_be_changed_22-holds, what_may_be_changed_23-holds, what_may_be_changed_24-holds, what_may_be_changed_25-holds, what_may_be_changed_26-holds, what_may_be_changed_27-holds, what_may_be_changed_28-holds)
