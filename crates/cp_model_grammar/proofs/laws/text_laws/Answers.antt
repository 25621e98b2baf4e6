use Rattle.cp_model_grammar.proofs.TextSound.{text_is_sound}
use Rattle.cp_model_grammar.proofs.TextComplete.{text_is_complete, tree_is_unique}
use Rattle.cp_model_grammar.proofs.laws.text_laws.Goals as goal

pub returns : goal.returns
returns c = record { sound = text_is_sound; complete = text_is_complete; unique = tree_is_unique }
