use Rattle.std.proofs.Common.{◌≡◌, subst, arith}
use Rattle.cp_program.specs.View as view
use Rattle.cp_law_exploring.specs.Exploring.{count}
use Rattle.cp_search_states.specs.Verdicts.{IsFine}
use Rattle.cp_search_store.specs.States.{state_count}
use Rattle.cp_search.proofs.Searched.{AreFineBelow, fine_all, fine_more, fine_none}
use Rattle.cp_search.proofs.space.are_fine.Goals as goal

pub loop-i-init : goal.loop-i-init
loop-i-init c = fine_none c.args.servers.now (count (view.program c.args.program.now)) c.args.store.now

pub loop-i-preserved : goal.loop-i-preserved
loop-i-preserved c =
    let n = count (view.program c.args.program.now) in
    fine_more c.args.servers.now n c.args.store.now c.loop-i.i
    (λ inputs. subst (IsFine c.args.servers.now n) (c.in_ok-restore.ensures c.if-not-branch.false inputs) (c.is_acceptable.ensures c.if-not-is_acceptable.false inputs))
    c.loop-i.invariant

pub returns : goal.returns
returns c = λ e inputs.
    let past = c.loop-i-test.false in
    let bound = c.loop-i.auto.i-end in
    let n = count (view.program c.args.program.now) in
    let end : c.loop-i.i ≡ state_count c.args.store.now = omega (arith, past, bound, c.len-i-end.ensures) in
    fine_all c.args.servers.now n c.args.store.now inputs (subst (AreFineBelow c.args.servers.now n c.args.store.now) end c.loop-i.invariant)
