use Rattle.std.proofs.Common.{◌≡◌, ap, sym, subst, ◌∙◌, IfSome, map}
use Rattle.cp_model_program.specs.Terms as terms
use Rattle.cp_program.specs.declared.term.PlaceExpression.{out-PlaceExpression}
use Rattle.cp_program.specs.View as view
use Rattle.cp_program.specs.View.{elements_of}
use Rattle.cp_program.proofs.Chains.{place_expression_is}
use Rattle.cp_program.proofs.term.PlaceExpression.as_element.Goals as goal

pub returns : goal.returns
returns c =
    let s = c.args.self.now in
    subst (λ p. IfSome c.element_of.result (λ e. view.element e ≡ p))
    (ap (λ xs. elements_of (terms.Rooted (view.root (out-PlaceExpression s).root)) (map view.index xs)) c.deref.ensures.value
    ∙ sym (place_expression_is s))
    c.element_of.ensures
