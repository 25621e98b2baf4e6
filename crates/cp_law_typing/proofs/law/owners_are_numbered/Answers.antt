use Rattle.cp_law_typing.proofs.Facts as proved
use Rattle.cp_law_typing.proofs.law.owners_are_numbered.Goals as goal

pub returns : goal.returns
returns c = record { processes = proved.processes_numbered; monitors = proved.monitors_numbered }
