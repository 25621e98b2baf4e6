use Rattle.cp_law_typing.proofs.Facts as proved
use Rattle.cp_law_typing.proofs.law.callees_are_defined_before.Goals as goal

pub returns : goal.returns
returns c = proved.callees_before
