use Rattle.std.proofs.Common.{List, ℕ, sym, ap, ◌∙◌}
use Rattle.cp_search_store.specs.Stored.{parts_at, row}
use Rattle.cp_search_store.proofs.Numbered.{numbered_parts}
use Rattle.cp_search_store.proofs.store.Store.restore_parts.Goals as goal

pub returns-in-Some : goal.returns-in-Some
returns-in-Some c = λ e inputs.
    let s = c.args.self.now in
    let xs = s.parts.privates.items in
    let ns = c.in-Some.row.now in
    sym (numbered_parts inputs xs ns c.restore_all.new.privates.items (c.restore_all.ensures e))
    ∙ ap (parts_at inputs xs 1) (c.in-Some.ensures ∙ ap (λ (l : List ℕ). row s.width l c.args.index) c.deref.ensures.value)
