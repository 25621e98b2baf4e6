use Rattle.std.proofs.Common.{◌+◌, Global, Vec, arith, refl, subst, sym, ◌∙◌}
use Rattle.cp_program.specs.View as view
use Rattle.cp_search_states.specs.SearchStates.{input_of}
use Rattle.cp_search_store.specs.States.{cores_of}
use Rattle.cp_search.proofs.Lists.{below_none, grows_more, grows_not}
use Rattle.cp_search.proofs.Searched.{expanded_one, keeps_not, keeps_twice, longer_by}
use Rattle.cp_search.proofs.Batched.{found_grown, next_taken}
use Rattle.cp_search.specs.Batches.{AreFound}
use Rattle.cp_search.specs.declared.scout.Found.{Found}
use Rattle.cp_search.proofs.search.expand.Goals as goal

pub loop-k-init : goal.loop-k-init
loop-k-init c =
    let program = view.program c.args.program.now in
    let inputs = input_of c.args.inputs.now in
    let store = c.args.space.now.store in
    record {
      grows = grows_not (cores_of inputs store);
      keeps = keeps_not store;
      ready = c.requires.ready;
      same = refl;
      found = c.requires.found;
      within = c.requires.within;
      expanded = below_none program (cores_of inputs store) c.args.i;
    }

pub cover_process-requires-clause-found : goal.cover_process-requires-clause-found
cover_process-requires-clause-found c =
    let program = view.program c.args.program.now in
    let inputs = input_of c.args.inputs.now in
    next_taken program inputs c.loop-k.space.store c.loop-k.batch.found.items c.args.i (c.loop-k.k + 1) c.at.result c.at.ensures.index c.at.ensures.process
    c.at.ensures.among c.loop-k.invariant.found

pub loop-k-preserved : goal.loop-k-preserved
loop-k-preserved c =
    let program = view.program c.args.program.now in
    let inputs = input_of c.args.inputs.now in
    let i = c.args.i in
    let old = c.loop-k.space.store in
    let new = c.cover_process.new.space.store in
    let was = c.loop-k.invariant in
    let done = c.in_ok-cover_process.ensures c.if-not-branch.false in
    let within = was.within in
    let longer = longer_by program inputs old new done.grows in
    record {
      grows = grows_more (cores_of inputs c.args.space.now.store) (cores_of inputs old) (cores_of inputs new) was.grows done.grows;
      keeps = keeps_twice c.args.space.now.store old new was.keeps done.keeps;
      ready = done.ready;
      same = c.pass.ensures ∙ was.same;
      found = subst (λ (v : Vec (Vec Found Global) Global). AreFound program inputs new v.items) (sym c.pass.ensures)
          (found_grown program inputs old new done.grows done.keeps c.loop-k.batch.found.items was.found);
      within = omega (arith, longer, within);
      expanded = expanded_one program inputs i c.loop-k.k old new c.cover_process.new.space.moves.moves.items within was.expanded done;
    }
