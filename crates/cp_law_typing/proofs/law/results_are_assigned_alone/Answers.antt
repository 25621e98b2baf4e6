use Rattle.cp_law_typing.proofs.Facts as proved
use Rattle.cp_law_typing.proofs.law.results_are_assigned_alone.Goals as goal

pub returns : goal.returns
returns c = proved.results_alone
