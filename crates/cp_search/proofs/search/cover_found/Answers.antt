use Rattle.std.proofs.Common.{Bor, IfSome, List, Option, ℕ, subst, sym}
use Rattle.std.proofs.lemmas.Result.{IfOk-weaker}
use Rattle.cp_program.specs.View as view
use Rattle.cp_search_states.specs.SearchStates.{input_of}
use Rattle.cp_search_store.specs.States.{IsAdded}
use Rattle.cp_search_store.specs.declared.moves.Moves.{Moves}
use Rattle.cp_search.specs.SearchResults.{IsCoveredNow}
use Rattle.cp_search.specs.Batches.{IsEarlyAt, IsNext, LeadsToNumbers}
use Rattle.cp_search.specs.declared.scout.Found.{Found}
use Rattle.cp_search.specs.declared.scout.Next.{Next}
use Rattle.cp_search.proofs.Batched.{early_taken, leads_taken}
use Rattle.cp_search.proofs.search.cover_found.Goals as goal

pub returns-in-NotLate : goal.returns-in-NotLate
returns-in-NotLate c = λ e.
    let program = view.program c.args.program.now in
    let inputs = input_of c.args.inputs.now in
    let i = c.args.i in
    let p = c.args.p in
    let store = c.args.space.now.store in
    let next : IsNext program inputs store i p c.in-Some.found.now.next =
    subst (λ (o : Option (Bor Found)). IfSome o (λ f. IsNext program inputs store i p f.now.next)) c.in-Some.is c.requires.found in
    let early : IsEarlyAt program inputs store i p = subst (λ (n : Next). IsNext program inputs store i p n) c.in-NotLate.is next in
    early_taken program inputs store c.args.space.now.moves.moves.items i p c.requires.ready early

pub returns-in-Leads : goal.returns-in-Leads
returns-in-Leads c =
    let program = view.program c.args.program.now in
    let inputs = input_of c.args.inputs.now in
    let i = c.args.i in
    let p = c.args.p in
    let space = c.args.space.now in
    let new = c.add_numbered.new.self.store in
    let kernel = c.in-Leads.kernel in
    let numbers = c.in-Leads.row.items in
    let next : IsNext program inputs space.store i p c.in-Some.found.now.next =
    subst (λ (o : Option (Bor Found)). IfSome o (λ f. IsNext program inputs space.store i p f.now.next)) c.in-Some.is c.requires.found in
    let leads : LeadsToNumbers program inputs space.store i p kernel numbers = subst (λ (n : Next). IsNext program inputs space.store i p n) c.in-Leads.is next in
    IfOk-weaker c.add_numbered.result _ _
    (λ done added e.
    subst (λ (m : Moves). IsCoveredNow program inputs i p space.store new m.moves.items) (sym c.add_numbered.ensures.moves)
    (leads_taken program inputs space.store new space.moves.moves.items i p kernel numbers c.requires.ready leads
    (subst (λ (l : List ℕ). IsAdded space.store kernel l new) c.deref.ensures.value (added e))))
    c.add_numbered.ensures.added
