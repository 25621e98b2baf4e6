use Rattle.cp_law_typing.proofs.Values as proved
use Rattle.cp_law_typing.proofs.law.static_types.Goals as goal

pub returns : goal.returns
returns c = record { places = proved.place_has_type; values = proved.value_has_type }
