use Rattle.cp_model_grammar.proofs.TypesSound.{types_are_sound}
use Rattle.cp_model_grammar.proofs.TypesComplete.{types_are_complete}
use Rattle.cp_model_grammar.proofs.laws.type_laws.Goals as goal

pub returns : goal.returns
returns c = record { sound = types_are_sound; complete = types_are_complete }
