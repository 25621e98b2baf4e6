use Rattle.cp_test_definitions.proofs.TutorialComputed.{a_small_operating_system_1-holds, a_small_operating_system_2-holds, a_small_operating_system_3-holds, hierarchy_and_access_rights_1-holds, hierarchy_and_access_rights_2-holds, hierarchy_and_access_rights_3-holds, hierarchy_and_access_rights_4-holds, hierarchy_and_access_rights_5-holds, hierarchy_and_access_rights_6-holds, input_and_output_1-holds, input_and_output_2-holds, input_and_output_3-holds, input_and_output_4-holds, input_and_output_5-holds, input_and_output_6-holds, monitors_and_queues_1-holds, monitors_and_queues_2-holds, monitors_and_queues_3-holds, monitors_and_queues_4-holds, monitors_and_queues_5-holds, monitors_and_queues_6-holds, monitors_and_queues_7-holds, monitors_and_queues_8-holds, processes_and_classes_1-holds, processes_and_classes_2-holds, processes_and_classes_3-holds, processes_and_classes_4-holds, processes_and_classes_5-holds, processes_and_classes_6-holds, time_1-holds, time_2-holds, time_3-holds, time_4-holds, time_5-holds, time_6-holds, time_7-holds}
use Rattle.cp_test_definitions.proofs.rows.tutorial_hold.Goals as goal

pub returns : goal.returns
returns c = (a_small_operating_system_1-holds, a_small_operating_system_2-holds, a_small_operating_system_3-holds, hierarchy_and_access_rights_1-holds, hierarchy_and_access_rights_2-holds, hierarchy_and_access_rights_3-holds, hierarchy_and_access_rights_4-holds, hierarchy_and_access_rights_5-holds, hierarchy_and_access_rights_6-holds, input_and_output_1-holds, input_and_output_2-holds, input_and_output_3-holds, input_and_output_4-holds, input_and_output_5-holds, input_and_output_6-holds, monitors_and_queues_1-holds, monitors_and_queues_2-holds, monitors_and_queues_3-holds, monitors_and_queues_4-holds, monitors_and_queues_5-holds, monitors_and_queues_6-holds, monitors_and_queues_7-holds, monitors_and_queues_8-holds, processes_and_classes_1-holds, processes_and_classes_2-holds, processes_and_classes_3-holds, processes_and_classes_4-holds, processes_and_classes_5-holds, processes_and_classes_6-holds, time_1-holds, time_2-holds, time_3-holds, time_4-holds, time_5-holds, time_6-holds, time_7-holds)
