use Rattle.cp_syntax.proofs.Stops.{token_at}
use Rattle.cp_syntax.proofs.parsing.place_of.Goals as goal

pub returns-clause-some : goal.returns-clause-some
returns-clause-some c =
    let index = c.in_ok-index.ensures in
    let look = c.in_ok-token.ensures.lookup in
    rw c.place.ensures (token_at _ _ _ _ index.0 index.1 look.3.0 look.1)
