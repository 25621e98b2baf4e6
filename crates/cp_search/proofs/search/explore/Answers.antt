use Rattle.std.proofs.Common.{◌≡◌, ◌<◌, Global, Vec, arith, subst, sym}
use Rattle.cp_program.specs.View as view
use Rattle.cp_search_states.specs.SearchStates.{input_of}
use Rattle.cp_search_store.specs.States.{cores_of, state_count}
use Rattle.cp_search.proofs.Lists.{expanded_none, grows_more, grows_not}
use Rattle.cp_search.specs.Batches.{AreFound}
use Rattle.cp_search.specs.declared.scout.Found.{Found}
use Rattle.cp_search.proofs.Searched.{explored_all, explored_one, longer_by}
use Rattle.cp_search.proofs.Batched.{found_grown, found_none}
use Rattle.cp_search.proofs.search.explore.Goals as goal

pub loop-i-init : goal.loop-i-init
loop-i-init g c =
    let program = view.program c.args.program.now in
    let inputs = input_of c.args.inputs.now in
    let store = c.args.space.now.store in
    record {
      grows = grows_not (cores_of inputs store);
      ready = c.requires.ready;
      found = found_none program inputs store c.new-batch.result.found.items c.new-batch.ensures;
      within = omega arith;
      expanded = expanded_none program (cores_of inputs store);
    }

pub begin_at-requires-clause-ready : goal.begin_at-requires-clause-ready
begin_at-requires-clause-ready g c κs within = c.loop-i.invariant.ready

pub expand-requires-clause-found : goal.expand-requires-clause-found
expand-requires-clause-found g c = c.in_ok-begin_at.ensures c.loop-i.invariant.found

pub loop-i-preserved : goal.loop-i-preserved
loop-i-preserved g c =
    let program = view.program c.args.program.now in
    let inputs = input_of c.args.inputs.now in
    let i = c.loop-i.i in
    let old = c.loop-i.space.store in
    let new = c.expand.new.space.store in
    let was = c.loop-i.invariant in
    let done = c.in_ok-expand.ensures.expanded c.if-not-branch.false in
    let within : i < state_count old = omega (arith, c.if-len-i.false, c.len.ensures) in
    let longer = longer_by program inputs old new done.grows in
    record {
      grows = grows_more (cores_of inputs c.args.space.now.store) (cores_of inputs old) (cores_of inputs new) was.grows done.grows;
      ready = done.ready;
      found = subst (λ (v : Vec (Vec Found Global) Global). AreFound program inputs new v.items) (sym c.expand.ensures.found)
          (found_grown program inputs old new done.grows done.keeps c.begin_at.new.self.found.items (c.in_ok-begin_at.ensures was.found));
      within = omega (arith, longer, within);
      expanded = explored_one program inputs i old new c.expand.new.space.moves.moves.items within was.expanded done;
    }

pub returns-then-len-i : goal.returns-then-len-i
returns-then-len-i g c = λ e.
    let program = view.program c.args.program.now in
    let inputs = input_of c.args.inputs.now in
    let i = c.loop-i.i in
    let store = c.loop-i.space.store in
    let was = c.loop-i.invariant in
    let within = was.within in
    let end : i ≡ state_count store = omega (arith, c.if-len-i.true, c.len.ensures, within) in
    explored_all program inputs i c.args.space.now.store store was.grows was.expanded end
