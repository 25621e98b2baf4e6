use Rattle.std.proofs.Common.{sym}
use Rattle.cp_model_program.proofs.ParametersCounted.{constants_short}
use Rattle.cp_model_program.proofs.counts.is_section_short.Goals as goal

pub returns-in-Constants : goal.returns-in-Constants
returns-in-Constants c = rw c.in-Constants.is (sym (constants_short c.in-Constants.field-0.items))
