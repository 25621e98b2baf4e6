use Rattle.std.proofs.lemmas.Result.{IfOk-weaker}
use Rattle.cp_program.specs.View as view
use Rattle.cp_search_states.specs.SearchStates.{core_of}
use Rattle.cp_search_store.proofs.Growing.{more_sound, numbered_below, numbered_is, numbered_more}
use Rattle.cp_search.proofs.Searched.{added_after, row_added}
use Rattle.cp_search.proofs.space.Space.add.Goals as goal

pub add_row-requires-clause-sound : goal.add_row-requires-clause-sound
add_row-requires-clause-sound c =
    let old = c.args.self.now in
    let mid = c.number.new.self in
    more_sound old.store mid (numbered_more old.store mid old.state c.in_ok-kernel.kernel c.number.new.row.items c.in_ok-kernel.ensures) c.requires

pub add_row-requires-clause-kernel : goal.add_row-requires-clause-kernel
add_row-requires-clause-kernel c = c.in_ok-kernel.ensures.kernel_is.within

pub add_row-requires-clause-parts : goal.add_row-requires-clause-parts
add_row-requires-clause-parts c =
    let old = c.args.self.now in
    numbered_below old.store c.number.new.self old.state c.in_ok-kernel.kernel c.number.new.row.items c.in_ok-kernel.ensures

pub returns-clause-added : goal.returns-clause-added
returns-clause-added c =
    let program = view.program c.args.program.now in
    let old = c.args.self.now in
    let mid = c.number.new.self in
    let new = c.add_row.new.self.store in
    let k = c.in_ok-kernel.kernel in
    let numbers = c.number.new.row.items in
    let h = c.in_ok-kernel.ensures in
    IfOk-weaker c.add_row.result _ _
    (λ done added e inputs.
    added_after program inputs old.store mid new (core_of inputs old.state) c.requires (numbered_more old.store mid old.state k numbers h)
    (row_added program inputs mid new k numbers (core_of inputs old.state) (numbered_is old.store mid old.state k numbers h inputs) (added e)))
    c.add_row.ensures.added

pub returns-clause-numbers : goal.returns-clause-numbers
returns-clause-numbers c =
    IfOk-weaker c.add_row.result _ _ (λ done added e. c.has_numbers.ensures c.if-not-has_numbers.false) c.add_row.ensures.added
