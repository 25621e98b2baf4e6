use Rattle.cp_syntax.proofs.Stops.{refused}
use Rattle.cp_syntax.proofs.parsing.parse.Goals as goal

pub returns-in-Ok-clause-unique : goal.returns-in-Ok-clause-unique
returns-in-Ok-clause-unique c u reads = c.text_laws.ensures.unique _ _ _ _ reads (c.text_laws.ensures.sound _ _ _ _ c.in-Ok.ensures)

pub returns-in-Err-clause-refused : goal.returns-in-Err-clause-refused
returns-in-Err-clause-refused c =
    let laws = c.refusal_laws.ensures in
    refused c.text_laws.ensures.complete laws.inside laws.begun laws.wrong laws.deep laws.opens laws.deeper _ _ _ _ c.in-Err.ensures c.refusal.ensures
