use Rattle.cp_test_machine.proofs.RunsComputed.{Runs-holds}
use Rattle.cp_test_machine.proofs.rows.runs_hold.Goals as goal

pub returns : goal.returns
returns c = (Runs-holds)
