use Rattle.cp_law_typing.proofs.Texts.{accepted_texts_are_well_typed}
use Rattle.cp_law_gates.proofs.Reached.{gates_make_hierarchy}
use Rattle.cp_law_gates.proofs.Texts.{text_is_ordered}
use Rattle.cp_law_gates.proofs.law.hierarchy.Goals as goal

pub returns : goal.returns
returns c = λ t setup past ok is. gates_make_hierarchy setup past (text_is_ordered setup (accepted_texts_are_well_typed t setup ok is))
