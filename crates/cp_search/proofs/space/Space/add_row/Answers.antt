use Rattle.std.proofs.Common.{List, ℕ, All, length, subst, sym}
use Rattle.cp_search_store.specs.States.{IsAdded, IsBelow}
use Rattle.cp_search.proofs.space.Space.add_row.Goals as goal

pub add-requires-clause-parts : goal.add-requires-clause-parts
add-requires-clause-parts c =
    subst (λ (l : List ℕ). All (IsBelow (length c.args.self.now.store.parts.privates.items)) l) (sym c.deref.ensures.value) c.requires.parts

pub returns-in_ok-note_state-clause-added : goal.returns-in_ok-note_state-clause-added
returns-in_ok-note_state-clause-added c = λ e.
    subst (λ (l : List ℕ). IsAdded c.args.self.now.store c.args.kernel l c.add.new.self) c.deref.ensures.value (c.in_ok-add.ensures c.if-not-branch.false)

pub returns-else-count-len-clause-added : goal.returns-else-count-len-clause-added
returns-else-count-len-clause-added c = λ e.
    subst (λ (l : List ℕ). IsAdded c.args.self.now.store c.args.kernel l c.add.new.self) c.deref.ensures.value (c.in_ok-add.ensures c.if-not-branch.false)
