use Rattle.cp_program.specs.View as view
use Rattle.cp_search_states.specs.SearchStates.{input_of}
use Rattle.cp_search_store.proofs.Growing.{more_not}
use Rattle.cp_search_store.proofs.Made.{found_true, remembered_true, wide_true}
use Rattle.cp_search.proofs.Searched.{more_ready}
use Rattle.cp_search.proofs.moving.move_of.Goals as goal

pub returns-in-Some : goal.returns-in-Some
returns-in-Some c =
    let store = c.args.space.now.store in
    record {
      more = more_not store;
      ready = c.requires.ready;
      is = found_true (view.program c.args.program.now) (input_of c.args.inputs.now) store.kernels.kernels.items store.parts.privates.items
          c.args.space.now.moves.moves.items c.args.key c.in-Some.outcome c.requires.ready.true_moves c.in-Some.ensures;
    }

pub returns-then-not-pays : goal.returns-then-not-pays
returns-then-not-pays c =
    let store = c.args.space.now.store in
    record {
      more = more_not store;
      ready = c.requires.ready;
      is = wide_true (view.program c.args.program.now) (input_of c.args.inputs.now) store c.args.key store c.requires.kernel c.requires.part;
    }

pub returns : goal.returns
returns c =
    let program = view.program c.args.program.now in
    let inputs = input_of c.args.inputs.now in
    let old = c.args.space.now.store in
    let ms = c.args.space.now.moves.moves.items in
    let new = c.make_move.new.store in
    let h = c.in_ok-outcome.ensures in
    let one = h.is c.requires.kernel c.requires.part in
    let ready = more_ready program inputs old new ms c.requires.ready h.more in
    record {
      more = h.more;
      ready = record {
        sound = ready.sound;
        rest = ready.rest;
        true_moves = remembered_true program inputs new.kernels.kernels.items new.parts.privates.items ms c.remember.new.self.moves.items c.args.key c.in_ok-outcome.outcome
            c.in_ok-remember.ensures ready.true_moves one;
      };
      is = one;
    }
