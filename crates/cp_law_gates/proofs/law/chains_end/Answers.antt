use Rattle.cp_law_gates.proofs.Chains.{hierarchy}
use Rattle.cp_law_gates.proofs.law.chains_end.Goals as goal

pub returns : goal.returns
returns c = hierarchy
