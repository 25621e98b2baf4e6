use Rattle.cp_model_grammar.proofs.ExpressionsSound.{expressions_are_sound}
use Rattle.cp_model_grammar.proofs.FactorsComplete.{expressions_are_complete}
use Rattle.cp_model_grammar.proofs.laws.expression_laws.Goals as goal

pub returns : goal.returns
returns c = record { sound = expressions_are_sound; complete = expressions_are_complete }
