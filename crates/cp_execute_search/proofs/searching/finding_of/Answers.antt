use Rattle.cp_model.proofs.Results.{if_ok}
use Rattle.cp_execute_search.proofs.searching.finding_of.Goals as goal

pub returns-in-Some-Schedule-clause-none : goal.returns-in-Some-Schedule-clause-none
returns-in-Some-Schedule-clause-none c = if_ok c.certify.result (λ found some none. absurd (some none)) c.certify.ensures.found
