use Rattle.cp_test_definitions.proofs.MeaningComputed.{a_call_that_makes_calls_1-holds, an_array_of_queues_1-holds, an_array_of_queues_2-holds, an_array_of_queues_3-holds, argument_range_first_1-holds, askers_in_order_1-holds, askers_in_order_2-holds, body_that_waits_1-holds, body_that_waits_2-holds, body_that_waits_3-holds, call_test_after_arguments_1-holds, calls_in_a_for_1-holds, calls_in_bounds_and_selectors_1-holds, calls_left_to_right_1-holds, case_of_negative_1-holds, class_in_monitor_1-holds, counting_down_1-holds, cycle_in_a_monitor_1-holds, division_1-holds, early_class_1-holds, early_handing_on_1-holds, fault_with_outer_gates_1-holds, field_names_1-holds, for_subrange_1-holds, function_that_continues_1-holds, functions_of_functions_1-holds, index_by_local_1-holds, inner_rights_1-holds, input_beyond_its_end_1-holds, input_beyond_its_end_2-holds, input_beyond_its_end_3-holds, input_beyond_its_end_4-holds, input_in_subrange_1-holds, input_in_subrange_2-holds, label_constants_1-holds, later_component_1-holds, later_constant_routine_1-holds, later_definitions_1-holds, later_routine_parameter_1-holds, later_routine_variable_1-holds, local_record_field_1-holds, monitor_variable_handed_down_1-holds, nested_delay_1-holds, nested_delay_2-holds, overflow_signs_1-holds, parameters_of_init_1-holds, references_of_references_1-holds, result_named_later_1-holds, same_function_names_1-holds, same_local_names_1-holds, structures_1-holds, subranges_of_characters_and_enumerations_1-holds, tests_anew_1-holds, waiting_processes_wake_at_the_tick_1-holds, waiting_processes_wake_at_the_tick_2-holds}
use Rattle.cp_test_definitions.proofs.rows.meaning_hold.Goals as goal

pub returns : goal.returns
returns c = (a_call_that_makes_calls_1-holds, an_array_of_queues_1-holds, an_array_of_queues_2-holds, an_array_of_queues_3-holds, argument_range_first_1-holds, askers_in_order_1-holds, askers_in_order_2-holds, body_that_waits_1-holds, body_that_waits_2-holds, body_that_waits_3-holds, call_test_after_arguments_1-holds, calls_in_a_for_1-holds, calls_in_bounds_and_selectors_1-holds, calls_left_to_right_1-holds, case_of_negative_1-holds, class_in_monitor_1-holds, counting_down_1-holds, cycle_in_a_monitor_1-holds, division_1-holds, early_class_1-holds, early_handing_on_1-holds, fault_with_outer_gates_1-holds, field_names_1-holds, for_subrange_1-holds, function_that_continues_1-holds, functions_of_functions_1-holds, index_by_local_1-holds, inner_rights_1-holds, input_beyond_its_end_1-holds, input_beyond_its_end_2-holds, input_beyond_its_end_3-holds, input_beyond_its_end_4-holds, input_in_subrange_1-holds, input_in_subrange_2-holds, label_constants_1-holds, later_component_1-holds, later_constant_routine_1-holds, later_definitions_1-holds, later_routine_parameter_1-holds, later_routine_variable_1-holds, local_record_field_1-holds, monitor_variable_handed_down_1-holds, nested_delay_1-holds, nested_delay_2-holds, overflow_signs_1-holds, parameters_of_init_1-holds, references_of_references_1-holds, result_named_later_1-holds, same_function_names_1-holds, same_local_names_1-holds, structures_1-holds, subranges_of_characters_and_enumerations_1-holds, tests_anew_1-holds, waiting_processes_wake_at_the_tick_1-holds, waiting_processes_wake_at_the_tick_2-holds)
