use Rattle.std.proofs.Common.{rules, ◌≡◌, length, ap, ◌∙◌, map, Ok}
use Rattle.std.proofs.lemmas.List.{nil_from_length}
use Rattle.cp_model_program.specs.Terms as terms
use Rattle.cp_model_machine.specs.Values.{place_of, root_place}
use Rattle.cp_program.specs.declared.term.PlaceExpression.{out-PlaceExpression}
use Rattle.cp_program.specs.Reaches.{view_with}
use Rattle.cp_program.specs.View as view
use Rattle.cp_program.specs.View.{elements_of}
use Rattle.cp_program.proofs.Chains.{place_expression_is}
use Rattle.cp_program.proofs.Found.{found_as}
use Rattle.cp_program.proofs.term.PlaceExpression.fast_place.Goals as goal

pub returns-then-is_empty : goal.returns-then-is_empty
returns-then-is_empty g c clock =
    let v = view_with c.args.memory.now c.args.shared.now clock in
    let s = out-PlaceExpression c.args.self.now in
    let zero : length s.indices.items ≡ 0 = search rules in
    let none = nil_from_length s.indices.items zero in
    let there : place_of v (view.place_expression c.args.self.now) ≡ Ok (root_place v (view.root s.root)) =
    ap (place_of v) (place_expression_is c.args.self.now) ∙ ap (λ xs. place_of v (elements_of (terms.Rooted (view.root s.root)) (map view.index xs))) none in
    found_as c.fast_root_place.result _ _ there (c.fast_root_place.ensures clock)
