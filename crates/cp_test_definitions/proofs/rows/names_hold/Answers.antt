use Rattle.cp_test_definitions.proofs.NamesComputed.{declared_twice_1-holds, declared_twice_2-holds, declared_twice_3-holds, declared_twice_4-holds, declared_twice_5-holds, declared_twice_6-holds, declared_twice_7-holds, declared_twice_8-holds, declared_twice_9-holds, declared_twice_10-holds, declared_twice_11-holds, declared_twice_12-holds, declared_twice_13-holds, declared_twice_14-holds, inside_its_own_definition_1-holds, inside_its_own_definition_2-holds, inside_its_own_definition_3-holds, inside_its_own_definition_4-holds, inside_its_own_definition_5-holds, inside_its_own_definition_6-holds, inside_its_own_definition_7-holds, inside_its_own_definition_8-holds, inside_its_own_definition_9-holds, inside_its_own_definition_10-holds, inside_its_own_definition_11-holds, inside_its_own_definition_12-holds, inside_its_own_definition_13-holds, inside_its_own_definition_14-holds, inside_its_own_definition_15-holds, inside_its_own_definition_16-holds, inside_its_own_definition_17-holds, visibility_1-holds, visibility_2-holds, visibility_3-holds, visibility_4-holds, visibility_5-holds, visibility_6-holds, visibility_7-holds, visibility_8-holds, visibility_9-holds, visibility_10-holds}
use Rattle.cp_test_definitions.proofs.rows.names_hold.Goals as goal

pub returns : goal.returns
returns c = (declared_twice_1-holds, declared_twice_2-holds, declared_twice_3-holds, declared_twice_4-holds, declared_twice_5-holds, declared_twice_6-holds, declared_twice_7-holds, declared_twice_8-holds, declared_twice_9-holds, declared_twice_10-holds, declared_twice_11-holds, declared_twice_12-holds, declared_twice_13-holds, declared_twice_14-holds, inside_its_own_definition_1-holds, inside_its_own_definition_2-holds, inside_its_own_definition_3-holds, inside_its_own_definition_4-holds, inside_its_own_definition_5-holds, inside_its_own_definition_6-holds, inside_its_own_definition_7-holds, inside_its_own_definition_8-holds, inside_its_own_definition_9-holds, inside_its_own_definition_10-holds, inside_its_own_definition_11-holds, inside_its_own_definition_12-holds, inside_its_own_definition_13-holds, inside_its_own_definition_14-holds, inside_its_own_definition_15-holds, inside_its_own_definition_16-holds, inside_its_own_definition_17-holds, visibility_1-holds, visibility_2-holds, visibility_3-holds, visibility_4-holds, visibility_5-holds, visibility_6-holds, visibility_7-holds, visibility_8-holds, visibility_9-holds, visibility_10-holds)
