use Rattle.cp_test_definitions.proofs.ExamplesComputed.{buffer_1-holds, buffer_2-holds, buffer_3-holds, division_1-holds, fibonacci_1-holds, nested_1-holds, nested_mended_1-holds, nested_mended_2-holds, philosophers_1-holds, philosophers_2-holds, philosophers_3-holds, readers_1-holds, readers_2-holds, readers_3-holds, readers_4-holds, scheduler_1-holds, scheduler_2-holds, scheduler_3-holds, seven_1-holds, sieve_1-holds, sieve_2-holds, sieve_3-holds, squarers_1-holds, squares_1-holds, writers_1-holds, writers_2-holds, writers_3-holds}
use Rattle.cp_test_definitions.proofs.rows.examples_hold.Goals as goal

pub returns : goal.returns
returns c = (buffer_1-holds, buffer_2-holds, buffer_3-holds, division_1-holds, fibonacci_1-holds, nested_1-holds, nested_mended_1-holds, nested_mended_2-holds, philosophers_1-holds, philosophers_2-holds, philosophers_3-holds, readers_1-holds, readers_2-holds, readers_3-holds, readers_4-holds, scheduler_1-holds, scheduler_2-holds, scheduler_3-holds, seven_1-holds, sieve_1-holds, sieve_2-holds, sieve_3-holds, squarers_1-holds, squares_1-holds, writers_1-holds, writers_2-holds, writers_3-holds)
