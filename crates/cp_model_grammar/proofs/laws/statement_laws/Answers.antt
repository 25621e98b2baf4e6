use Rattle.cp_model_grammar.proofs.StatementsSound.{statements_are_sound}
use Rattle.cp_model_grammar.proofs.StatementsComplete.{statements_are_complete}
use Rattle.cp_model_grammar.proofs.laws.statement_laws.Goals as goal

pub returns : goal.returns
returns c = record { sound = statements_are_sound; complete = statements_are_complete }
