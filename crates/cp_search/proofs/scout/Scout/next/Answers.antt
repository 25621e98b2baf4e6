use Rattle.std.proofs.Common.{IfSome, Option, subst, sym, ℕ}
use Rattle.cp_program.specs.View as view
use Rattle.cp_law_exploring.specs.Exploring.{IsQuiescent}
use Rattle.cp_search_states.specs.SearchStates.{core_of, input_of}
use Rattle.cp_search_store.specs.States.{IsNumbered, core_at}
use Rattle.cp_search.proofs.Searched.{cores_at}
use Rattle.cp_search.proofs.Batched.{leads_found}
use Rattle.cp_search.proofs.scout.Scout.next.Goals as goal

pub advance-requires-clause-rest : goal.advance-requires-clause-rest
advance-requires-clause-rest c =
    let inputs = input_of c.args.inputs.now in
    let i = c.args.i in
    let store = c.args.space.now.store in
    subst IsQuiescent (sym (c.in_ok-restore.ensures c.if-not-branch.false inputs))
    (c.requires.ready.rest.each i (core_at inputs store i) (cores_at inputs store i c.requires.within)).quiet

pub returns-in-Some-clause-next : goal.returns-in-Some-clause-next
returns-in-Some-clause-next c =
    let inputs = input_of c.args.inputs.now in
    let store = c.args.space.now.store in
    let after = c.advance.new.state in
    let numbers = c.find.new.row.items in
    let found : IsNumbered store after store c.in-Some.kernel numbers =
    subst (λ (o : Option ℕ). IfSome o (λ k. IsNumbered store after store k numbers)) c.in-Some.is c.in_ok-kernel.ensures in
    leads_found (view.program c.args.program.now) inputs store c.args.i c.args.p c.in-Some.kernel numbers (core_of inputs c.restore.new.state) after c.requires.within
    (c.in_ok-restore.ensures c.if-not-branch.false inputs) (c.in_ok-advance.ensures c.if-not-branch-2.false)
    (c.has_numbers.ensures c.if-not-has_numbers.false inputs) found
