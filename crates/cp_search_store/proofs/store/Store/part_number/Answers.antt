use Rattle.std.proofs.Common.{◌≡◌, ◌-◌, ℕ, List, Some, IfSome, slice_get, subst}
use Rattle.cp_search_store.proofs.store.Store.part_number.Goals as goal

pub returns-in-Some : goal.returns-in-Some
returns-in-Some c =
    subst (λ (l : List ℕ). IfSome c.number_at.result (λ n. slice_get l (c.args.p - 1) ≡ Some n)) c.in-Some.ensures
    (subst (λ (j : ℕ). IfSome c.number_at.result (λ n. slice_get c.in-Some.numbers.now j ≡ Some n)) c.saturating_sub.ensures c.number_at.ensures)
