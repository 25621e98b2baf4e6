use Rattle.std.proofs.Common.{◌≡◌, ap, sym, subst, ◌∙◌, ◌∷◌, [], IfSome, map}
use Rattle.cp_model_program.specs.Terms as terms
use Rattle.cp_program.specs.View as view
use Rattle.cp_program.proofs.Found.{one}
use Rattle.cp_program.proofs.elements.element_of.Goals as goal

pub returns-in-len1 : goal.returns-in-len1
returns-in-len1 c =
    let x = c.i-item.result in
    let single : c.args.indices.now ≡ x ∷ [] =
    one c.args.indices.now x c.in-len1.len_at_least c.in-len1.len_below ∙ ap (λ y. y ∷ []) (sym c.i-item.is) in
    subst (λ xs. IfSome c.element.result (λ e. view.element e ≡ view.elements_of (terms.Rooted (view.root c.args.root)) (map view.index xs)))
    (sym single) c.element.ensures
