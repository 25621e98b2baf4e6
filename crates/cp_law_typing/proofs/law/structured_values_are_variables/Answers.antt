use Rattle.cp_law_typing.proofs.Facts as proved
use Rattle.cp_law_typing.proofs.law.structured_values_are_variables.Goals as goal

pub returns : goal.returns
returns c = proved.structured_values
