use Rattle.std.proofs.Common.{sym, ◌∙◌, subst}
use Rattle.cp_program.specs.View as view
use Rattle.cp_law_exploring.specs.Exploring.{IsQuiescent}
use Rattle.cp_law_search.specs.Calls.{move_at}
use Rattle.cp_search_states.specs.SearchStates.{core_of, input_of}
use Rattle.cp_search_store.specs.States.{core_at}
use Rattle.cp_search_store.specs.declared.moves.Moves.{Moves}
use Rattle.cp_search.specs.SearchResults.{IsCoveredNow}
use Rattle.cp_search.proofs.Lists.{both_ok}
use Rattle.cp_search.proofs.Searched.{cores_at, rests_settled, tried_no, tried_yes}
use Rattle.cp_search.proofs.search.cover_widely.Goals as goal

pub returns-then-not-is_late : goal.returns-then-not-is_late
returns-then-not-is_late c = λ e.
    let program = view.program c.args.program.now in
    let inputs = input_of c.args.inputs.now in
    tried_no program inputs c.args.space.now.moves.moves.items c.args.i c.args.p c.args.space.now.store (core_of inputs c.restore.new.state) c.requires.within c.requires.ready
    (c.in_ok-restore.ensures c.if-not-branch.false inputs)
    (λ late. c.is_late.ensures.no c.if-not-is_late.true (c.way.ensures inputs ∙ late))

pub advance-requires-clause-rest : goal.advance-requires-clause-rest
advance-requires-clause-rest c =
    let inputs = input_of c.args.inputs.now in
    let i = c.args.i in
    let store = c.args.space.now.store in
    subst IsQuiescent (sym (c.in_ok-restore.ensures c.if-not-branch.false inputs))
    (c.requires.ready.rest.each i (core_at inputs store i) (cores_at inputs store i c.requires.within)).quiet

pub returns : goal.returns
returns c =
    let program = view.program c.args.program.now in
    let inputs = input_of c.args.inputs.now in
    let before = core_of inputs c.restore.new.state in
    let after = core_of inputs c.advance.new.state in
    let space = c.args.space.now in
    let new = c.add.new.self in
    let settles = c.in_ok-advance.ensures c.if-not-branch-2.false in
    both_ok c.add.result _ _ _
    (λ done added numbers e.
    subst (λ (m : Moves). IsCoveredNow program inputs c.args.i c.args.p space.store new.store m.moves.items) (sym c.add.ensures.moves)
    (tried_yes program inputs space.moves.moves.items c.args.i c.args.p space.store new.store before after c.requires.within c.requires.ready
    (c.in_ok-restore.ensures c.if-not-branch.false inputs) settles
    (rests_settled program inputs (move_at program before c.args.p) after settles (numbers e inputs)) (added e inputs)))
    c.add.ensures.added c.add.ensures.numbers
