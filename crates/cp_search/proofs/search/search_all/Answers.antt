use Rattle.std.proofs.Common.{subst, sym}
use Rattle.std.proofs.lemmas.Result.{IfOk-weaker}
use Rattle.cp_program.specs.View as view
use Rattle.cp_law_cores.specs.Cores.{close}
use Rattle.cp_search_states.specs.SearchStates.{core_of, input_of}
use Rattle.cp_search_store.specs.declared.moves.Moves.{Moves}
use Rattle.cp_search.specs.SearchResults.{IsReady}
use Rattle.cp_search.proofs.Searched.{first_is_silent, none_ready, nothing_stuck, rests_settled}
use Rattle.cp_search.proofs.search.search_all.Goals as goal

pub settle-requires-clause-silent : goal.settle-requires-clause-silent
settle-requires-clause-silent g c =
    let inputs = input_of c.args.inputs.now in
    first_is_silent (view.program c.args.program.now) inputs (core_of inputs c.in_ok-space.field-0) (c.in_ok-space.ensures 1 inputs)

pub explore-requires-clause-ready : goal.explore-requires-clause-ready
explore-requires-clause-ready g c κs within =
    let program = view.program c.args.program.now in
    let inputs = input_of c.args.inputs.now in
    let space = c.args.space.now in
    let start = core_of inputs c.in_ok-space.field-0 in
    let first = core_of inputs c.settle.new.state in
    let added = c.in_ok-add.ensures.added c.if-not-branch-2.false inputs in
    subst (λ (m : Moves). IsReady program inputs c.add.new.self.store m.moves.items) (sym c.add.ensures.moves)
    (added.ready space.moves.moves.items (none_ready program inputs space.store space.moves.moves.items c.requires.sound (c.requires.none inputs) c.requires.moves)
    (rests_settled program inputs (close program start) first (c.in_ok-settle.ensures c.if-not-branch.false) (c.in_ok-add.ensures.numbers c.if-not-branch-2.false inputs)))

pub returns : goal.returns
returns g c =
    let program = view.program c.args.program.now in
    let inputs = input_of c.args.inputs.now in
    IfOk-weaker c.are_fine.result _ _
    (λ done fine e.
    nothing_stuck c.args.servers.now program inputs c.in_ok-space.field-0 c.settle.new.state c.args.space.now.store c.add.new.self.store c.explore.new.space.store
    c.expanding.ensures.first c.searching.ensures.reports (c.is_timeless.ensures c.if-not-is_timeless.false)
    (c.in_ok-space.ensures 1 inputs) (c.in_ok-settle.ensures c.if-not-branch.false) (c.in_ok-add.ensures.added c.if-not-branch-2.false inputs)
    (c.in_ok-explore.ensures c.if-not-branch-3.false) (fine e inputs))
    c.are_fine.ensures
