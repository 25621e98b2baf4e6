use Rattle.cp_law_typing.proofs.StartValues as proved
use Rattle.cp_law_typing.proofs.law.variables_have_start_values.Goals as goal

pub returns : goal.returns
returns c = proved.variables_start
