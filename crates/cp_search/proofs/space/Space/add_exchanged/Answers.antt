use Rattle.std.proofs.Common.{◌-◌, List, ℕ, All, length, subst, sym}
use Rattle.std.proofs.lemmas.Result.{IfOk-weaker}
use Rattle.std.proofs.lemmas.List.Elements.{All-set}
use Rattle.cp_search_store.specs.Stored.{row}
use Rattle.cp_search_store.specs.States.{IsAdded, IsBelow, IsSound}
use Rattle.cp_search_store.specs.declared.store.Store.{Store}
use Rattle.cp_search_store.proofs.Made.{row_below}
use Rattle.cp_search.specs.SearchResults.{exchanged}
use Rattle.cp_search.proofs.Exchanged.{exchanged_is}
use Rattle.cp_search.proofs.Searched.{row_added}
use Rattle.cp_search.proofs.space.Space.add_exchanged.Goals as goal

pub add_row-requires-clause-sound : goal.add_row-requires-clause-sound
add_row-requires-clause-sound c = subst IsSound (sym c.copy_row.ensures.store) c.requires.sound

pub add_row-requires-clause-kernel : goal.add_row-requires-clause-kernel
add_row-requires-clause-kernel c =
    subst (λ (s : Store). IsBelow (length s.kernels.kernels.items) c.args.kernel) (sym c.copy_row.ensures.store) c.requires.kernel

pub add_row-requires-clause-parts : goal.add_row-requires-clause-parts
add_row-requires-clause-parts c =
    let s = c.args.self.now.store in
    let n = length s.parts.privates.items in
    let ns = row s.width s.part_numbers.items c.args.index in
    subst (λ (t : Store). All (IsBelow (length t.parts.privates.items)) c.copy_row.new.self.next_row.items) (sym c.copy_row.ensures.store)
    (subst (λ (l : List ℕ). All (IsBelow n) l) (sym (c.in_ok-copy_row.ensures.numbers c.if-not-branch.false))
    (All-set (IsBelow n) ns (c.args.p - 1) c.args.part c.requires.part (row_below s c.requires.sound c.args.index)))

pub returns-clause-added : goal.returns-clause-added
returns-clause-added c =
    let old = c.args.self.now.store in
    let new = c.add_row.new.self.store in
    let numbers = c.copy_row.new.self.next_row.items in
    let is = c.in_ok-copy_row.ensures.numbers c.if-not-branch.false in
    IfOk-weaker c.add_row.result _ _
    (λ done added e program inputs.
    row_added program inputs old new c.args.kernel numbers (exchanged inputs old c.args.index c.args.p c.args.kernel c.args.part)
    (exchanged_is inputs old c.args.index c.args.p c.args.kernel c.args.part numbers c.requires.first is)
    (subst (λ (s : Store). IsAdded s c.args.kernel numbers new) c.copy_row.ensures.store (added e)))
    c.add_row.ensures.added
