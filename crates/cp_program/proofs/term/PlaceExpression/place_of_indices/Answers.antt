use Rattle.std.proofs.Common.{ap, sym, ◌∙◌, map}
use Rattle.cp_model_program.specs.Terms as terms
use Rattle.cp_model_machine.specs.Values.{place_of}
use Rattle.cp_program.specs.declared.term.PlaceExpression.{out-PlaceExpression}
use Rattle.cp_program.specs.Reaches.{elements_place, view_with}
use Rattle.cp_program.specs.View as view
use Rattle.cp_program.proofs.Chains.{place_elements, place_expression_is}
use Rattle.cp_program.proofs.Found.{found}
use Rattle.cp_program.proofs.term.PlaceExpression.place_of_indices.Goals as goal

pub returns : goal.returns
returns g c clock =
    let v = view_with c.args.memory.now c.args.shared.now clock in
    let s = c.args.self.now in
    let is = map view.index (out-PlaceExpression s).indices.items in
    found c.fast_place_of_element.result _ _
    (ap (λ xs. elements_place v c.in_ok-from.from (map view.index xs)) c.deref.ensures.value
    ∙ (ap (λ n. elements_place v n is) (sym (c.in_ok-from.ensures clock))
    ∙ (sym (place_elements v (terms.Rooted (view.root (out-PlaceExpression s).root)) is)
    ∙ ap (place_of v) (sym (place_expression_is s)))))
    (c.fast_place_of_element.ensures clock)
