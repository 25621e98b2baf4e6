use Rattle.cp_test_definitions.proofs.ClassesComputed.{classes_and_rights_1-holds}
use Rattle.cp_test_definitions.proofs.rows.classes_hold.Goals as goal

pub returns : goal.returns
returns c = (classes_and_rights_1-holds)
