use Rattle.cp_test_definitions.proofs.ProcessesComputed.{a_cycle_never_ends_1-holds, a_cycle_never_ends_2-holds, a_started_process_runs_one_round_later_1-holds, a_started_process_runs_one_round_later_2-holds, calls_come_before_the_expression_1-holds, counting_processes_1-holds, counting_processes_2-holds, empty_program_1-holds, empty_program_2-holds, empty_program_3-holds, faults_of_arithmetic_and_indices_1-holds, input_and_transcript_1-holds, many_processes_1-holds, records_and_escapes_1-holds, records_and_escapes_2-holds, routines_types_and_loops_1-holds, routines_types_and_loops_2-holds, routines_types_and_loops_3-holds, routines_types_and_loops_4-holds}
use Rattle.cp_test_definitions.proofs.rows.processes_hold.Goals as goal

pub returns : goal.returns
returns c = (a_cycle_never_ends_1-holds, a_cycle_never_ends_2-holds, a_started_process_runs_one_round_later_1-holds, a_started_process_runs_one_round_later_2-holds, calls_come_before_the_expression_1-holds, counting_processes_1-holds, counting_processes_2-holds, empty_program_1-holds, empty_program_2-holds, empty_program_3-holds, faults_of_arithmetic_and_indices_1-holds, input_and_transcript_1-holds, many_processes_1-holds, records_and_escapes_1-holds, records_and_escapes_2-holds, routines_types_and_loops_1-holds, routines_types_and_loops_2-holds, routines_types_and_loops_3-holds, routines_types_and_loops_4-holds)
