use Rattle.std.proofs.Common.{◌≡◌, ℕ, List, Some, IfSome, slice_get, subst}
use Rattle.cp_search_store.proofs.store.Store.kernel_number.Goals as goal

pub returns : goal.returns
returns c =
    subst (λ (l : List ℕ). IfSome c.number_at.result (λ k. slice_get l c.args.index ≡ Some k)) c.deref.ensures.value c.number_at.ensures
