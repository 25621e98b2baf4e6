use Rattle.cp_law_typing.proofs.Facts as proved
use Rattle.cp_law_typing.proofs.law.names_mean_declarations.Goals as goal

pub returns : goal.returns
returns c = record { variables = proved.variables_lie; constants = proved.constants_are_global }
