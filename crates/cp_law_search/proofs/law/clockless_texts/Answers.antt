use Rattle.cp_law_search.proofs.CompiledTexts.{compiled_texts_are_clockless}
use Rattle.cp_law_search.proofs.law.clockless_texts.Goals as goal

pub returns : goal.returns
returns c = compiled_texts_are_clockless
