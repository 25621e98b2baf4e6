use Rattle.std.proofs.Common.{rules, suc, ◌≡◌, ◌-◌, length, ap, sym, ◌∙◌}
use Rattle.cp_model_program.specs.Terms as plain
use Rattle.cp_model_program.specs.TermsFor.{move_place_expression}
use Rattle.cp_program.specs.View.{index, index_after, root}
use Rattle.cp_program.specs.declared.term.PlaceExpression.{out-PlaceExpression}
use Rattle.cp_program.proofs.Chains.{elements_moved, place_expression_is, place_expression_rolled}
use Rattle.cp_program.proofs.term.PlaceExpression.advance.Goals as goal

pub returns : goal.returns
returns c =
    let s = out-PlaceExpression c.args.self in
    let n = c.args.words in
    let last : suc (c.len-last.result - 1) ≡ length s.indices.items = search rules in
    let changed = c.in_ok-advance-2.ensures ∙ ap (λ x. index_after n (index x)) c.index_mut.ensures.value in
    place_expression_rolled s.root _
    ∙ (elements_moved n (plain.Rooted (root s.root)) s.indices.items (c.len-last.result - 1) _ _ last changed
    ∙ ap (move_place_expression n) (sym (place_expression_is c.args.self)))
