use Rattle.std.proofs.Common.{◌≡◌, Some, map, option_map, slice_get, refl, ap, sym, ◌∙◌, arith}
use Rattle.std.proofs.lemmas.List.{length-map}
use Rattle.std.proofs.lemmas.Option.{slice_get-get_or, slice_get-map}
use Rattle.cp_model_program.specs.Terms as plain
use Rattle.cp_law_cores.specs.Clocks.{place_expression_is_timeless, term_is_timeless}
use Rattle.cp_program.specs.View as view
use Rattle.cp_program.specs.declared.term.PlaceExpression.{out-PlaceExpression}
use Rattle.cp_program.specs.declared.term.Term.{out-Term}
use Rattle.cp_program.specs.View.{PlainIndex}
use Rattle.cp_program.proofs.Chains.{index_far, index_near, place_expression_is, term_is}
use Rattle.cp_search_clock.specs.Chains.{application_is_timeless, applications_are_timeless, indices_are_timeless}
use Rattle.cp_search_clock.proofs.Whole.{chain_passes, element_operand, element_passes, elements_pass, left_more, left_past, more_applications, more_indices, near_passes}
use Rattle.cp_search_clock.proofs.terms.+clock.Goals as goal

pub chain_is_timeless-loop-x-preserved : goal.chain_is_timeless-loop-x-preserved
chain_is_timeless-loop-x-preserved t c =
    let xs = map view.application c.args.rest.now in
    let i = c.loop-x.x-index in
    let x = c.x-item.result in
    let here : slice_get xs i ≡ Some (view.application x) =
    slice_get-map view.application c.args.rest.now i
    ∙ ap (option_map view.application) (slice_get-get_or c.args.rest.now i x c.loop-x-test.true ∙ ap (λ z. Some z) (sym c.x-item.is)) in
    left_more application_is_timeless applications_are_timeless refl more_applications xs i (view.application x) here (c.application_is_timeless.ensures c.if-not-application_is_timeless.false) c.loop-x.invariant

pub chain_is_timeless-returns : goal.chain_is_timeless-returns
chain_is_timeless-returns t c = λ e.
    let xs = map view.application c.args.rest.now in
    let past = c.loop-x-test.false in
    let count = length-map c.args.rest.now view.application in
    c.loop-x.invariant (left_past application_is_timeless applications_are_timeless refl more_applications xs c.loop-x.x-index (omega (arith, past, count)))

pub path_is_timeless-loop-i-preserved : goal.path_is_timeless-loop-i-preserved
path_is_timeless-loop-i-preserved t c =
    let xs = map view.index c.args.indices.now in
    let i = c.loop-i.i-index in
    let x = c.i-item.result in
    let here : slice_get xs i ≡ Some (view.index x) =
    slice_get-map view.index c.args.indices.now i
    ∙ ap (option_map view.index) (slice_get-get_or c.args.indices.now i x c.loop-i-test.true ∙ ap (λ z. Some z) (sym c.i-item.is)) in
    left_more (λ (i : PlainIndex). term_is_timeless i.value) indices_are_timeless refl more_indices xs i (view.index x) here (c.index_is_timeless.ensures c.if-not-index_is_timeless.false) c.loop-i.invariant

pub path_is_timeless-returns : goal.path_is_timeless-returns
path_is_timeless-returns t c = λ e.
    let xs = map view.index c.args.indices.now in
    let past = c.loop-i-test.false in
    let count = length-map c.args.indices.now view.index in
    c.loop-i.invariant (left_past (λ (i : PlainIndex). term_is_timeless i.value) indices_are_timeless refl more_indices xs c.loop-i.i-index (omega (arith, past, count)))

pub place_expression_is_timeless-returns : goal.place_expression_is_timeless-returns
place_expression_is_timeless-returns t c = λ e.
    let s = c.args.s.now in
    let all = ap (λ xs. indices_are_timeless (map view.index xs)) (sym c.deref.ensures.value) ∙ c.path_is_timeless.ensures e in
    ap place_expression_is_timeless (place_expression_is s) ∙ elements_pass (plain.Rooted (view.root (out-PlaceExpression s).root)) (map view.index (out-PlaceExpression s).indices.items) refl all

pub term_is_timeless-returns : goal.term_is_timeless-returns
term_is_timeless-returns t c = λ e.
    let s = c.args.t.now in
    let all = ap (λ xs. applications_are_timeless (map view.application xs)) (sym c.deref.ensures.value) ∙ c.chain_is_timeless.ensures e in
    ap term_is_timeless (term_is s)
    ∙ chain_passes (view.operand (out-Term s).first) (map view.application (out-Term s).rest.items) (c.operand_is_timeless.ensures c.if-not-operand_is_timeless.false) all

pub operand_is_timeless-returns-in-Element : goal.operand_is_timeless-returns-in-Element
operand_is_timeless-returns-in-Element t c = λ e.
    let x = c.in-Element.field-0 in
    ap (λ y. term_is_timeless (view.operand y)) c.in-Element.is ∙ (ap term_is_timeless (element_operand x) ∙ element_passes x.value)

pub index_is_timeless-returns-in-Near : goal.index_is_timeless-returns-in-Near
index_is_timeless-returns-in-Near t c = λ e.
    let i = c.in-Near.field-0 in
    ap (λ x. term_is_timeless (view.index x).value) c.in-Near.is ∙ (ap (λ (x : PlainIndex). term_is_timeless x.value) (index_near i) ∙ near_passes i)

pub index_is_timeless-returns-in-Far : goal.index_is_timeless-returns-in-Far
index_is_timeless-returns-in-Far t c = λ e.
    let x = c.in-Far in
    ap (λ y. term_is_timeless (view.index y).value) x.is
    ∙ (ap (λ (i : PlainIndex). term_is_timeless i.value) (index_far x.part x.value) ∙ c.term_is_timeless.ensures e)
