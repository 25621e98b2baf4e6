use Rattle.std.proofs.Common.{rules, arith, ◌≡◌, suc, ◌+◌, ◌<◌, ◌^◌, map, drop, ◌∷◌, Ok, Err, ap, sym, ◌∙◌, to_z, of_z, w32}
use Rattle.std.proofs.Math.Seq.{drop-cons}
use Rattle.std.proofs.lemmas.List.{at_drop_all}
use Rattle.cp_model_program.specs.Terms as terms
use Rattle.cp_model_machine.specs.Values.{bind, place_of, value_of}
use Rattle.cp_program.specs.Reaches.{cap_place, capped_result, chain_value, elements_place, index_offset, offset_of, view_of}
use Rattle.cp_program.specs.View as view
use Rattle.cp_program.specs.declared.term.PlaceExpression.{out-PlaceExpression}
use Rattle.cp_program.specs.declared.term.Term.{out-Term}
use Rattle.cp_program.proofs.Chains.{elements_capped, index_far, place_elements, place_expression_is, term_is, value_chain}
use Rattle.cp_program.proofs.+value.Goals as goal

pub evaluation::place_of_element-loop-i-preserved : goal.evaluation::place_of_element-loop-i-preserved
evaluation::place_of_element-loop-i-preserved t c =
    let v = view_of c.args.reach.now in
    let i = view.index c.i-item.result in
    let at = c.loop-i.at in
    let far = c.in_ok-offset.field-0 in
    let rest = map view.index (drop (c.loop-i.i-index + 1) c.args.indices.now) in
    let next : suc c.loop-i.i-index ≡ c.loop-i.i-index + 1 = omega arith in
    let split : drop c.loop-i.i-index c.args.indices.now ≡ c.i-item.result ∷ drop (c.loop-i.i-index + 1) c.args.indices.now =
    drop-cons c.args.indices.now c.loop-i.i-index c.i-item.result c.loop-i-test.true
    ∙ ap (λ x. x ∷ drop (suc c.loop-i.i-index) c.args.indices.now) (sym c.i-item.is)
    ∙ ap (λ k. c.i-item.result ∷ drop k c.args.indices.now) next in
    let moved : index_offset v i ≡ Ok far = search rules in
    let reported : cap_place c.saturating_add-at.result ≡ cap_place (at + far) = omega (arith, c.saturating_add-at.ensures) in
    record {
      small = c.saturating_add-at.type_inv;
      place =
          elements_capped v c.saturating_add-at.result (at + far) rest reported
          ∙ (ap (λ r. capped_result (bind r (λ k. elements_place v (at + k) rest))) (sym moved)
          ∙ (ap (λ xs. capped_result (elements_place v at (map view.index xs))) (sym split) ∙ c.loop-i.invariant.place));
    }

pub evaluation::place_of_element-returns : goal.evaluation::place_of_element-returns
evaluation::place_of_element-returns t c =
    let v = view_of c.args.reach.now in
    let at = c.loop-i.at in
    let small : at < 2 ^ 64 = c.loop-i.invariant.small in
    let reported : at ≡ cap_place at = omega arith in
    ap (λ n. Ok n) reported
    ∙ (sym (at_drop_all (λ xs. capped_result (elements_place v at (map view.index xs))) c.args.indices.now c.loop-i.i-index c.loop-i-test.false)
    ∙ c.loop-i.invariant.place)

pub term::PlaceExpression::place-returns : goal.term::PlaceExpression::place-returns
term::PlaceExpression::place-returns t c =
    let v = view_of c.args.reach.now in
    let s = c.args.self.now in
    let is = map view.index (out-PlaceExpression s).indices.items in
    c.place_of_element.ensures
    ∙ (ap (λ xs. capped_result (elements_place v c.root_place-from.result (map view.index xs))) c.deref.ensures.value
    ∙ (ap (λ n. capped_result (elements_place v n is)) c.root_place-from.ensures.place
    ∙ (ap capped_result (sym (place_elements v (terms.Rooted (view.root (out-PlaceExpression s).root)) is))
    ∙ ap (λ x. capped_result (place_of v x)) (sym (place_expression_is s)))))

pub term::Term::value_here-returns-in_err-first : goal.term::Term::value_here-returns-in_err-first
term::Term::value_here-returns-in_err-first t c =
    let v = view_of c.args.reach.now in
    let s = c.args.self.now in
    let xs = map view.application (out-Term s).rest.items in
    let given : c.from_residual.result ≡ Err c.in_err-first.field-0.0 = search rules in
    given
    ∙ (ap (λ r. bind r (λ x. chain_value v x xs)) (sym c.in_err-first.was ∙ c.value.ensures)
    ∙ (sym (value_chain v (view.operand (out-Term s).first) xs) ∙ ap (value_of v) (sym (term_is s))))

pub term::Term::value_here-returns : goal.term::Term::value_here-returns
term::Term::value_here-returns t c =
    let v = view_of c.args.reach.now in
    let s = c.args.self.now in
    let xs = map view.application (out-Term s).rest.items in
    let given : c.value_of_chain.result ≡ chain_value v c.in_ok-first.first xs = search rules in
    given
    ∙ (ap (λ r. bind r (λ x. chain_value v x xs)) (sym c.in_ok-first.was ∙ c.value.ensures)
    ∙ (sym (value_chain v (view.operand (out-Term s).first) xs) ∙ ap (value_of v) (sym (term_is s))))

pub term::Index::offset-returns-in_ok-n-in-Far : goal.term::Index::offset-returns-in_ok-n-in-Far
term::Index::offset-returns-in_ok-n-in-Far t c =
    let v = view_of c.args.reach.now in
    let x = c.in-Far in
    let i = view.index_of x.part (view.term x.value) in
    let n = c.in_ok-n-in-Far.n in
    let same : to_z w32 (of_z w32 n) ≡ n = search rules in
    let valued : value_of v (view.term x.value) ≡ Ok n = sym c.value_here.ensures ∙ c.in_ok-n-in-Far.was in
    c.offset-in-Far.ensures
    ∙ (ap (offset_of i) same
    ∙ (ap (λ r. bind r (offset_of i)) (sym valued) ∙ ap (index_offset v) (sym (ap view.index x.is ∙ index_far x.part x.value))))
