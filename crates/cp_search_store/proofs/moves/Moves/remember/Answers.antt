use Rattle.std.proofs.Common.{◌∙◌}
use Rattle.cp_search_store.proofs.moves.Moves.remember.Goals as goal

pub returns : goal.returns
returns c = c.note.ensures ∙ c.in_ok-push.ensures.items
