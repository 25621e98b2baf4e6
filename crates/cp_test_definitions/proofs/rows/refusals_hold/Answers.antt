use Rattle.cp_test_definitions.proofs.RefusalsComputed.{byte_1-holds, character_ordinal_1-holds, class_parameter_of_a_process_1-holds, declared_wait_1-holds, delay_in_a_process_1-holds, empty_subrange_1-holds, empty_text_1-holds, first_of_two_names_1-holds, large_negative_number_1-holds, large_number_1-holds, large_process_1-holds, large_type_1-holds, missing_point_1-holds, nesting_of_201_levels_1-holds, nesting_of_201_levels_2-holds, nesting_of_parentheses_1-holds, number_of_arguments_1-holds, open_comment_1-holds, process_256_1-holds, recursion_1-holds, routine_without_entry_1-holds, token_behind_the_end_1-holds, unknown_name_1-holds, wait_in_a_class_1-holds, wait_in_a_monitor_1-holds, word_of_65_letters_1-holds}
use Rattle.cp_test_definitions.proofs.rows.refusals_hold.Goals as goal

pub returns : goal.returns
returns c = (byte_1-holds, character_ordinal_1-holds, class_parameter_of_a_process_1-holds, declared_wait_1-holds, delay_in_a_process_1-holds, empty_subrange_1-holds, empty_text_1-holds, first_of_two_names_1-holds, large_negative_number_1-holds, large_number_1-holds, large_process_1-holds, large_type_1-holds, missing_point_1-holds, nesting_of_201_levels_1-holds, nesting_of_201_levels_2-holds, nesting_of_parentheses_1-holds, number_of_arguments_1-holds, open_comment_1-holds, process_256_1-holds, recursion_1-holds, routine_without_entry_1-holds, token_behind_the_end_1-holds, unknown_name_1-holds, wait_in_a_class_1-holds, wait_in_a_monitor_1-holds, word_of_65_letters_1-holds)
