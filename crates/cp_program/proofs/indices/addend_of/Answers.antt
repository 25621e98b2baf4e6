use Rattle.std.proofs.Common.{◌≡◌, ap, sym, subst, ◌∙◌, ◌∷◌, [], IfSome, map}
use Rattle.cp_program.specs.View as view
use Rattle.cp_program.proofs.Found.{one}
use Rattle.cp_program.proofs.indices.addend_of.Goals as goal

pub returns-in-len1 : goal.returns-in-len1
returns-in-len1 c e =
    let x = c.x-item.result in
    let single : c.args.rest.now ≡ x ∷ [] =
    one c.args.rest.now x c.in-len1.len_at_least c.in-len1.len_below ∙ ap (λ y. y ∷ []) (sym c.x-item.is) in
    subst (λ xs. IfSome c.addend.result (λ s. view.with_addend s e ≡ view.chain_of e (map view.application xs))) (sym single) (c.addend.ensures e)
