use Rattle.cp_test_definitions.proofs.ComponentsComputed.{arguments_of_init_1-holds, arguments_of_init_2-holds, arguments_of_init_3-holds, arguments_of_init_4-holds, arguments_of_init_5-holds, arguments_of_init_6-holds, arguments_of_init_7-holds, arguments_of_init_8-holds, arguments_of_init_9-holds, arguments_of_init_10-holds, arguments_of_init_11-holds, initialisation_1-holds, initialisation_2-holds, initialisation_3-holds, initialisation_4-holds, initialisation_5-holds, initialisation_6-holds, initialisation_7-holds, initialisation_8-holds, initialisation_9-holds, initialisation_10-holds, initialisation_11-holds, initialisation_12-holds, initialisation_13-holds, initialisation_14-holds, names_behind_a_point_1-holds, names_behind_a_point_2-holds, names_behind_a_point_3-holds, names_behind_a_point_4-holds, names_behind_a_point_5-holds, names_behind_a_point_6-holds, names_behind_a_point_7-holds, names_behind_a_point_8-holds, names_behind_a_point_9-holds, names_behind_a_point_10-holds, names_behind_a_point_11-holds, names_behind_a_point_12-holds, names_behind_a_point_13-holds, names_behind_a_point_14-holds, names_behind_a_point_15-holds, names_behind_a_point_16-holds, names_behind_a_point_17-holds, names_behind_a_point_18-holds, names_behind_a_point_19-holds, names_behind_a_point_20-holds, rights_and_calls_1-holds, rights_and_calls_2-holds, rights_and_calls_3-holds, rights_and_calls_4-holds, rights_and_calls_5-holds, rights_and_calls_6-holds, rights_and_calls_7-holds, rights_and_calls_8-holds, rights_and_calls_9-holds, rights_and_calls_10-holds, rights_and_calls_11-holds, rights_and_calls_12-holds, rights_and_calls_13-holds, rights_and_calls_14-holds, rights_and_calls_15-holds, rights_and_calls_16-holds, rights_and_calls_17-holds, rights_and_calls_18-holds, rights_and_calls_19-holds, rights_and_calls_20-holds, rights_and_calls_21-holds, rights_and_calls_22-holds, rights_and_calls_23-holds, rights_and_calls_24-holds, rights_and_calls_25-holds, rights_and_calls_26-holds, rights_and_calls_27-holds, rights_and_calls_28-holds, rights_and_calls_29-holds}
use Rattle.cp_test_definitions.proofs.rows.components_hold.Goals as goal

pub returns : goal.returns
returns c = (arguments_of_init_1-holds, arguments_of_init_2-holds, arguments_of_init_3-holds, arguments_of_init_4-holds, arguments_of_init_5-holds, arguments_of_init_6-holds, arguments_of_init_7-holds, arguments_of_init_8-holds, arguments_of_init_9-holds, arguments_of_init_10-holds, arguments_of_init_11-holds, initialisation_1-holds, initialisation_2-holds, initialisation_3-holds, initialisation_4-holds, initialisation_5-holds, initialisation_6-holds, initialisation_7-holds, initialisation_8-holds, initialisation_9-holds, initialisation_10-holds, initialisation_11-holds, initialisation_12-holds, initialisation_13-holds, initialisation_14-holds, names_behind_a_point_1-holds, names_behind_a_point_2-holds, names_behind_a_point_3-holds, names_behind_a_point_4-holds, names_behind_a_point_5-holds, names_behind_a_point_6-holds, names_behind_a_point_7-holds, names_behind_a_point_8-holds, names_behind_a_point_9-holds, names_behind_a_point_10-holds, names_behind_a_point_11-holds, names_behind_a_point_12-holds, names_behind_a_point_13-holds, names_behind_a_point_14-holds, names_behind_a_point_15-holds, names_behind_a_point_16-holds, names_behind_a_point_17-holds, names_behind_a_point_18-holds, names_behind_a_point_19-holds, names_behind_a_point_20-holds, rights_and_calls_1-holds, rights_and_calls_2-holds, rights_and_calls_3-holds, rights_and_calls_4-holds, rights_and_calls_5-holds, rights_and_calls_6-holds, rights_and_calls_7-holds, rights_and_calls_8-holds, rights_and_calls_9-holds, rights_and_calls_10-holds, rights_and_calls_11-holds, rights_and_calls_12-holds, rights_and_calls_13-holds, rights_and_calls_14-holds, rights_and_calls_15-holds, rights_and_calls_16-holds, rights_and_calls_17-holds, rights_and_calls_18-holds, rights_and_calls_19-holds, rights_and_calls_20-holds, rights_and_calls_21-holds, rights_and_calls_22-holds, rights_and_calls_23-holds, rights_and_calls_24-holds, rights_and_calls_25-holds, rights_and_calls_26-holds, rights_and_calls_27-holds, rights_and_calls_28-holds, rights_and_calls_29-holds)
