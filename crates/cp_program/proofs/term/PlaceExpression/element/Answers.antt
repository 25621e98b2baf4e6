use Rattle.std.proofs.Common.{◌≡◌, [], ◌∷◌, ◌++◌, map, ap, sym, ◌∙◌}
use Rattle.std.specs.Int.{w32}
use Rattle.std.proofs.lemmas.Int.{to_z-of_z}
use Rattle.std.proofs.lemmas.List.{map-append}
use Rattle.cp_model_program.specs.Terms as plain
use Rattle.cp_program.specs.View.{PlainIndex, elements_of, index, root, term}
use Rattle.cp_program.specs.declared.term.PlaceExpression.{out-PlaceExpression}
use Rattle.cp_program.proofs.Chains.{elements_more, place_expression_is, place_expression_rolled}
use Rattle.cp_program.proofs.Wide.{narrow}
use Rattle.cp_program.proofs.term.PlaceExpression.element.Goals as goal

pub returns : goal.returns
returns c =
    let s = out-PlaceExpression c.args.self in
    let is = map index s.indices.items in
    let of = plain.Rooted (root s.root) in
    let low = narrow c.args.low in
    let high = narrow c.args.high in
    let new : PlainIndex = record { low = low; high = high; size = c.args.size; plus = 0; value = term c.args.value } in
    let pushed : map index c.push_exactly.new.list.items ≡ is ++ new ∷ [] =
    ap (map index) c.in_ok-push_exactly.ensures
    ∙ map-append index s.indices.items (c.new.result ∷ [])
    ∙ ap (λ x. is ++ x ∷ []) c.new.ensures in
    place_expression_rolled s.root _
    ∙ (ap (elements_of of) pushed
    ∙ (elements_more of is new
    ∙ (λ i. plain.Element (sym (place_expression_is c.args.self) i) (to_z-of_z w32 c.args.low c.ranges.low i) (to_z-of_z w32 c.args.high c.ranges.high i)
    c.args.size 0 (term c.args.value))))
