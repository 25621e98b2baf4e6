use Rattle.std.proofs.Common.{◌≡◌, ℕ, List, IfSome, subst}
use Rattle.cp_search_store.specs.Stored.{row}
use Rattle.cp_search_store.proofs.store.Store.row.Goals as goal

pub returns : goal.returns
returns c =
    subst (λ (l : List ℕ). IfSome c.row_at.result (λ r. r.now ≡ row c.args.self.now.width l c.args.index)) c.deref.ensures.value c.row_at.ensures
