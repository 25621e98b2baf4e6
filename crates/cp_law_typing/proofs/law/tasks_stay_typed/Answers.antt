use Rattle.cp_law_typing.proofs.StatementCalls as proved
use Rattle.cp_law_typing.proofs.law.tasks_stay_typed.Goals as goal

pub returns : goal.returns
returns c = proved.tasks_stay_typed
