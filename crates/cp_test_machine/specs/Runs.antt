-- Worked texts whose compiled programs answer as the meaning does. Written by worked/make_rows.py.
use Rattle.std.specs.Prelude.{true, false, [], codes}
use Rattle.cp_test_definitions.specs.Examples.{buffer_1_text}
use Rattle.cp_test_definitions.specs.Meaning.{input_in_subrange_1_text}
use Rattle.cp_test_definitions.specs.Monitors.{a_chain_of_askers_1_text}
use Rattle.cp_test_definitions.specs.Processes.{routines_types_and_loops_1_text}
use Rattle.cp_test_machine.specs.Answers.{RunIsMeant, ConsumedIsMeant}

abbrev pub Runs : Type 0
Runs =
    RunIsMeant 6 100 1 false [] buffer_1_text
    × RunIsMeant 11 100 1 false [] buffer_1_text
    × RunIsMeant 1 100 1 false (codes "xyz") input_in_subrange_1_text
    × ConsumedIsMeant 1 100 1 (codes "xyz") input_in_subrange_1_text
    × RunIsMeant 2 10 1 false [] a_chain_of_askers_1_text
    × RunIsMeant 2 10 1 true [] a_chain_of_askers_1_text
    × RunIsMeant 1 200 1 false [] routines_types_and_loops_1_text
    × RunIsMeant 1 30 1 false [] routines_types_and_loops_1_text
    × RunIsMeant 1 29 1 false [] routines_types_and_loops_1_text
    × RunIsMeant 3 10 1 false [] routines_types_and_loops_1_text
