use Rattle.cp_test_definitions.proofs.NestingComputed.{a_word_of_64_letters_1-holds, nesting_of_200_levels_1-holds, nesting_of_parentheses_1-holds}
use Rattle.cp_test_definitions.proofs.rows.nesting_hold.Goals as goal

pub returns : goal.returns
returns c = (a_word_of_64_letters_1-holds, nesting_of_200_levels_1-holds, nesting_of_parentheses_1-holds)
