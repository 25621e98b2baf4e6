use Rattle.std.proofs.Common.{◌≡◌, ◌+◌, ◌++◌, ◌∷◌, All, Global, IfSome, Option, Vec, [], ap, subst, sym, ◌∙◌}
use Rattle.std.proofs.lemmas.List.Elements.{All-push}
use Rattle.cp_program.specs.View as view
use Rattle.cp_search_states.specs.SearchStates.{input_of}
use Rattle.cp_search.specs.Batches.{IsNext, IsStep}
use Rattle.cp_search.specs.declared.scout.Found.{Found}
use Rattle.cp_search.specs.declared.scout.Next.{Next}
use Rattle.cp_search.proofs.scout.Scout.look.Goals as goal

pub loop-k-preserved : goal.loop-k-preserved
loop-k-preserved c = λ was.
    let program = view.program c.args.program.now in
    let inputs = input_of c.args.inputs.now in
    let store = c.args.space.now.store in
    let i = c.args.i in
    let k = c.loop-k.k in
    let xs = c.loop-k.self.found.items in
    let x : Found = record { index = i; process = k + 1; next = c.in-Some.next } in
    let is : IsNext program inputs store i (k + 1) c.in-Some.next =
    subst (λ (o : Option Next). IfSome o (IsNext program inputs store i (k + 1))) c.in-Some.is c.in_ok-next.ensures.next in
    let same : c.next.new.self.found ≡ c.loop-k.self.found = c.next.ensures.found in
    let items : c.push.new.self.items ≡ xs ++ x ∷ [] = c.in_ok-push.ensures.items ∙ ap (λ (v : Vec Found Global). v.items ++ x ∷ []) same in
    subst (All (IsStep program inputs store)) (sym items)
    (All-push (IsStep program inputs store) xs x (c.loop-k.invariant was) (record { is = is }))
