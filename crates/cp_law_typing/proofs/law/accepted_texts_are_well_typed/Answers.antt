use Rattle.cp_law_typing.proofs.Texts as proved
use Rattle.cp_law_typing.proofs.law.accepted_texts_are_well_typed.Goals as goal

pub returns : goal.returns
returns c = proved.accepted_texts_are_well_typed
