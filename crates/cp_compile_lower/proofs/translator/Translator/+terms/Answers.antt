-- Expressions, designators and arguments contain one another, so each answer joins what the calls in it promise of
-- the parts. A loop over operands or selectors keeps the expression read so far, which the definition groups to the
-- left: its invariant is that what was made is the definition's for that expression, and that what is left completes it.
use Rattle.std.proofs.Common.{◌≡◌, ◌∷◌, ◌++◌, ◌+◌, ◌≤◌, ◌∙◌, [], Some, pos, ℕ, List, add-one, ap, arith, drop, length, length-append, map, refl, slice_get, subst, sym}
use Rattle.std.specs.Int.{w32}
use Rattle.std.proofs.lemmas.Int.{to_z-of_z}
use Rattle.std.proofs.lemmas.List.{at_drop_more, drop_all}
use Rattle.cp_model.specs.Abstract as a
use Rattle.cp_model.specs.Calls.{callee}
use Rattle.cp_model.specs.Erase as erase
use Rattle.cp_model.specs.Types.{base_of_type}
use Rattle.cp_law_typing.specs.StaticTypes.{expression_type}
use Rattle.cp_model_program.specs.Scopes.{environment}
use Rattle.cp_model_program.specs.Sites.{first_parameter}
use Rattle.cp_compile_symbols.specs.Representing.{simple_of}
use Rattle.cp_model.specs.Syntax as syntax
use Rattle.cp_model.specs.View as tree
use Rattle.cp_model.specs.declared.tree.Expression.{Expression}
use Rattle.cp_model_program.specs.CodedTerms.{CodedArguments, argument_of, coded_arguments, coded_place_expression, coded_standard, coded_term, coded_variable, lone_term, name_or_item, no_arguments, parameters_of, term_of_name, with_argument}
use Rattle.cp_model_program.specs.Terms.{Number}
use Rattle.cp_compile_emit.specs.Emission.{coded_call}
use Rattle.cp_compile_symbols.proofs.ValueTypes.{is_name}
use Rattle.cp_compile_emit.specs.declared.call.MadeTerm.{MadeTerm}
use Rattle.cp_program.proofs.Wide.{narrow}
use Rattle.cp_compile_lower.specs.Translated.{AreArguments, IsPlace, IsPlaceExpression, IsTerm}
use Rattle.cp_compile_lower.proofs.ArgumentsMade.{Finishes, all_made, declared_at, got, no_parameters, one_made, parameters_past}
use Rattle.cp_compile_lower.proofs.CallsMade.{called_as, called_by, first_at, none_called, nothing_passed, standard_as, standard_empty, valued}
use Rattle.cp_compile_lower.proofs.Consisting.{bare_call, bare_chain, meant, no_bare_call, no_bare_chain, no_character, no_not, no_number, no_signed, other_place_expression}
use Rattle.cp_compile_lower.proofs.TermsMade.{lone_made, part_held, seen_as}
use Rattle.cp_model.proofs.Views.{view_call, view_chain, view_character, view_designator, view_field, view_index, view_not, view_number, view_operation, view_signed}
use Rattle.cp_model.proofs.Results.{if_ok}
use Rattle.cp_compile_lower.proofs.translator.Translator.+terms.Goals as goal

pub chain-loop-o-preserved : goal.chain-loop-o-preserved
chain-loop-o-preserved t c = λ s low before e scope first.
    let so_far = c.loop-o.invariant s low before e scope first in
    let f = so_far.0 in
    let o = c.o-item.result in
    let i = c.loop-o.o-index in
    let rest = c.args.rest.now in
    let operand = tree.expression o.operand in
    let step : syntax.chain_of f (map tree.operation (drop i rest)) ≡ syntax.chain_of f (map tree.operation (o ∷ drop (i + 1) rest)) =
    at_drop_more (λ os. syntax.chain_of f (map tree.operation os)) rest i o c.loop-o-test.true
    ∙ ap (λ p. syntax.chain_of f (map tree.operation (p ∷ drop (i + 1) rest))) (sym c.o-item.is) in
    let view = ap (λ p. syntax.chain_of f (p ∷ map tree.operation (drop (i + 1) rest))) (view_operation o) in
    let right =
    subst (λ n. IsTerm (map coded_call c.loop-o.calls.items) c.term.new.calls.items c.in_ok-right.right (coded_term s (erase.expression operand) n))
    so_far.1.temps (c.in_ok-right.ensures s scope) in (
      syntax.Binary f o.operator o.at operand,
      c.in_ok-left.ensures before c.loop-o.calls.items c.term.new.calls.items (coded_term s (erase.expression f) low)
          (coded_term s (erase.expression operand) (coded_term s (erase.expression f) low).temps) so_far.1 right,
      sym (step ∙ view) ∙ so_far.2,
    )

pub chain-returns : goal.chain-returns
chain-returns t c = λ s low before e scope first.
    let so_far = c.loop-o.invariant s low before e scope first in
    let all = c.args.rest.now in
    let end : so_far.0 ≡ syntax.chain_of e (map tree.operation all) =
    sym (ap (λ os. syntax.chain_of so_far.0 (map tree.operation os)) (drop_all c.loop-o.o-index all c.loop-o-test.false)) ∙ so_far.2 in
    subst (λ x. IsTerm before c.loop-o.calls.items c.loop-o.left (coded_term s (erase.expression x) low)) end so_far.1

pub select_elements-loop-i-preserved : goal.select_elements-loop-i-preserved
select_elements-loop-i-preserved t c = λ s low before d scope place.
    let so_far = c.loop-i.invariant s low before d scope place in
    let p = so_far.0 in
    let o = c.i-item.result in
    let i = c.loop-i.i-index in
    let all = c.args.indices.now in
    let e = erase.expression (tree.expression o.value) in
    let step : erase.with_indices p (tree.indices_of (map tree.index (drop i all))) ≡ erase.with_indices p (tree.indices_of (map tree.index (o ∷ drop (i + 1) all))) =
    at_drop_more (λ os. erase.with_indices p (tree.indices_of (map tree.index os))) all i o c.loop-i-test.true
    ∙ ap (λ q. erase.with_indices p (tree.indices_of (map tree.index (q ∷ drop (i + 1) all)))) (sym c.i-item.is) in
    let view = ap (λ q. erase.with_indices p (tree.indices_of (q ∷ map tree.index (drop (i + 1) all)))) (view_index o) in (
      a.At p e,
      c.in_ok-made.ensures s low before p scope so_far.1,
      sym (step ∙ view) ∙ so_far.2,
    )

pub select_elements-returns : goal.select_elements-returns
select_elements-returns t c = λ s low before d scope place.
    let so_far = c.loop-i.invariant s low before d scope place in
    let all = c.args.indices.now in
    let end : so_far.0 ≡ erase.with_indices d (tree.indices_of (map tree.index all)) =
    sym (ap (λ os. erase.with_indices so_far.0 (tree.indices_of (map tree.index os))) (drop_all c.loop-i.i-index all c.loop-i-test.false)) ∙ so_far.2 in
    subst (λ x. IsPlace c.args.self.now.scope s low before c.loop-i.calls.items x c.loop-i.made) end so_far.1

pub select-returns-in-Field : goal.select-returns-in-Field
select-returns-in-Field t c =
    let calls = c.args.calls.now.items in
    rw c.in-Field.is
    (if_ok c.field.result (λ made h s low before d scope place.
    subst (λ y. IsPlace c.args.self.now.scope s low before calls (erase.select d y) made) (sym (view_field c.in-Field.at c.in-Field.name))
    ((rw c.as_bytes.ensures at h) calls s low before d scope place)) c.field.ensures)

pub place_expression-loop-selector-init : goal.place_expression-loop-selector-init
place_expression-loop-selector-init t c = λ s scope. (
  a.Plain c.args.designator.now.root.name,
  rw c.as_bytes.ensures at (c.in_ok-made.ensures s c.args.calls.now.items scope),
  ap (λ ys. erase.with_selectors (a.Plain c.args.designator.now.root.name) (tree.selectors_of (map tree.selector ys))) c.deref-selector-items.ensures.value
      ∙ sym (ap erase.designator (view_designator c.args.designator.now)),
)

pub place_expression-loop-selector-preserved : goal.place_expression-loop-selector-preserved
place_expression-loop-selector-preserved t c = λ s scope.
    let so_far = c.loop-selector.invariant s scope in
    let p = so_far.0 in
    let o = c.selector-item.result in
    let i = c.loop-selector.selector-index in
    let all = c.deref-selector-items.result.now in
    let step : erase.with_selectors p (tree.selectors_of (map tree.selector (drop i all))) ≡ erase.with_selectors p (tree.selectors_of (map tree.selector (o ∷ drop (i + 1) all))) =
    at_drop_more (λ os. erase.with_selectors p (tree.selectors_of (map tree.selector os))) all i o c.loop-selector-test.true
    ∙ ap (λ q. erase.with_selectors p (tree.selectors_of (map tree.selector (q ∷ drop (i + 1) all)))) (sym c.selector-item.is) in (
      erase.select p (tree.selector o),
      c.in_ok-made-2.ensures s c.args.low (map coded_call c.args.calls.now.items) p scope so_far.1,
      sym step ∙ so_far.2,
    )

pub place_expression-returns : goal.place_expression-returns
place_expression-returns t c = λ s scope.
    let so_far = c.loop-selector.invariant s scope in
    let all = c.deref-selector-items.result.now in
    let end : so_far.0 ≡ erase.designator (tree.designator c.args.designator.now) =
    sym (ap (λ os. erase.with_selectors so_far.0 (tree.selectors_of (map tree.selector os))) (drop_all c.loop-selector.selector-index all c.loop-selector-test.false))
    ∙ so_far.2 in
    subst (λ x. IsPlace c.args.self.now.scope s c.args.low (map coded_call c.args.calls.now.items) c.loop-selector.calls.items x c.loop-selector.made) end
    so_far.1

pub place_term-returns-then-not-is_part : goal.place_term-returns-then-not-is_part
place_term-returns-then-not-is_part t c = λ s scope.
    let d = c.args.designator.now in
    let calls = c.args.calls.now.items in
    let named = is_name d (sym c.is_part.ensures ∙ c.if-not-is_part.true) in
    let made : MadeTerm = record { term = c.in_ok-term.term; temps = c.args.low } in
    subst (λ x. IsTerm (map coded_call calls) calls made (name_or_item s x (coded_place_expression s x c.args.low) c.args.low)) (sym named)
    (lone_made calls made (term_of_name s d.root.name) c.args.low (rw c.as_bytes.ensures at (c.in_ok-term.ensures s scope)) refl)

pub place_term-returns : goal.place_term-returns
place_term-returns t c =
    let x = erase.designator (tree.designator c.args.designator.now) in
    let before = map coded_call c.args.calls.now.items in
    let after = c.place_expression.new.calls.items in
    let low = c.args.low in
    let part = sym c.is_part.ensures ∙ c.if-not-is_part.false in
    if_ok c.item.result
    (λ made h s scope.
    subst (IsTerm before after made) (sym (part_held s x (coded_place_expression s x low) low part)) (h before after (coded_place_expression s x low) (c.in_ok-made.ensures s scope).place_expression))
    c.item.ensures

pub select_element-returns-in-None : goal.select_element-returns-in-None
select_element-returns-in-None t c = λ s low before d scope place.
    c.no_element.ensures s low before c.args.calls.now.items d (erase.expression (tree.expression c.args.index.now)) (sym c.elements.ensures ∙ c.in-None.is) place

pub select_element-returns-in_ok-index-in-Some : goal.select_element-returns-in_ok-index-in-Some
select_element-returns-in_ok-index-in-Some t c =
    if_ok c.element.result
    (λ made h s low before d scope place.
    h s low before c.args.calls.now.items c.term.new.calls.items d (erase.expression (tree.expression c.args.index.now)) (sym c.elements.ensures ∙ c.in-Some.is) scope place
    (c.in_ok-index-in-Some.ensures s scope))
    c.element.ensures

pub term-returns-in-Number : goal.term-returns-in-Number
term-returns-in-Number t c = λ s scope.
    let calls = c.args.calls.now.items in
    let n : narrow c.from.result ≡ pos c.in-Number.value = to_z-of_z w32 c.from.result (record { sfits = c.from.type_inv }) ∙ c.from.ensures in
    seen_as (map coded_call calls) calls c.number.result s c.args.low (tree.expression c.args.expression.now) (syntax.Number c.in-Number.at c.in-Number.value)
    (rw c.in-Number.is (view_number c.in-Number.at c.in-Number.value))
    (subst (λ m. IsTerm (map coded_call calls) calls c.number.result (lone_term (Number m) c.args.low)) n (c.number.ensures calls))

pub term-returns-in-Character : goal.term-returns-in-Character
term-returns-in-Character t c = λ s scope.
    let calls = c.args.calls.now.items in
    let n : narrow c.from-in-Character.result ≡ pos c.in-Character.ordinal =
    to_z-of_z w32 c.from-in-Character.result (record { sfits = c.from-in-Character.type_inv }) ∙ c.from-in-Character.ensures in
    seen_as (map coded_call calls) calls c.number-in-Character.result s c.args.low (tree.expression c.args.expression.now)
    (syntax.Character c.in-Character.at c.in-Character.ordinal) (rw c.in-Character.is (view_character c.in-Character.at c.in-Character.ordinal))
    (subst (λ m. IsTerm (map coded_call calls) calls c.number-in-Character.result (lone_term (Number m) c.args.low)) n (c.number-in-Character.ensures calls))

pub term-returns-in_ok-made-in-Not : goal.term-returns-in_ok-made-in-Not
term-returns-in_ok-made-in-Not t c =
    let before = map coded_call c.args.calls.now.items in
    let after = c.term-in-Not.new.calls.items in
    let e = tree.expression c.in-Not.operand.value in
    let v : tree.expression c.args.expression.now ≡ syntax.Not c.in-Not.at e = rw c.in-Not.is (view_not c.in-Not.at c.in-Not.operand) in
    if_ok c.not.result (λ made h s scope.
    seen_as before after made s _ _ _ v (h before after _ (rw c.deref-in-Not.ensures at (c.in_ok-made-in-Not.ensures s scope)))) c.not.ensures

pub term-returns-in_ok-made-in-Signed : goal.term-returns-in_ok-made-in-Signed
term-returns-in_ok-made-in-Signed t c =
    let before = map coded_call c.args.calls.now.items in
    let after = c.term-in-Signed.new.calls.items in
    let e = tree.expression c.in-Signed.operand.value in
    let v : tree.expression c.args.expression.now ≡ syntax.Signed c.in-Signed.sign c.in-Signed.at e = rw c.in-Signed.is (view_signed _ c.in-Signed.at c.in-Signed.operand) in
    if_ok c.with_sign.result (λ made h s scope.
    seen_as before after made s _ _ _ v (h before after s _ c.args.low (rw c.deref-in-Signed.ensures at (c.in_ok-made-in-Signed.ensures s scope)))) c.with_sign.ensures

pub term-returns-in_ok-made-in-Chain : goal.term-returns-in_ok-made-in-Chain
term-returns-in_ok-made-in-Chain t c =
    let before = map coded_call c.args.calls.now.items in
    let e = tree.expression c.in-Chain.first.value in
    let v : tree.expression c.args.expression.now ≡ syntax.chain_of e (map tree.operation c.in-Chain.rest.items) = rw c.in-Chain.is (view_chain c.in-Chain.first c.in-Chain.rest) in
    if_ok c.chain.result (λ made h s scope.
    seen_as before _ made s _ _ _ v
    ((rw c.deref-in-Chain-2.ensures.value at h) s c.args.low before e scope (rw c.deref-in-Chain.ensures at (c.in_ok-made-in-Chain.ensures s scope))))
    c.chain.ensures

pub arguments-loop-e-preserved : goal.arguments-loop-e-preserved
arguments-loop-e-preserved t c =
    let types = c.args.self.now.scope.tables.now.types in
    let k = c.loop-e.e-index in
    let all = c.args.es.now in
    let o = c.e-item.result in
    let e = erase.expression (tree.expression o) in
    let made = c.loop-e.made in
    let next = c.in_ok-next.next in
    let after = c.argument.new.calls.items in
    let longer : length c.push.new.self.items ≡ length (made.arguments.items ++ next.argument ∷ []) = ap length c.in_ok-push.ensures.items in
    let read = got c.args.parameters.now c.len.result c.get.result c.in-Some.parameter c.get.ensures.lookup.3 c.in-Some.is in
    let same : k ≡ c.len.result = omega (arith, c.len.ensures, c.loop-e.invariant.count, made.arguments.ok.0) in
    let there : slice_get c.args.parameters.now k ≡ Some c.in-Some.parameter.now = ap (slice_get c.args.parameters.now) same ∙ read in record {
      count = omega (arith, longer, length-append made.arguments.items (next.argument ∷ []), c.loop-e.invariant.count);
      so_far = λ s ps scope declared.
          let p = declared_at types c.args.parameters.now ps k c.in-Some.parameter.now declared there in
          let v = p.declared in
          let split : drop k ps ≡ v ∷ drop (k + 1) ps = p.split ∙ ap (λ n. v ∷ drop n ps) (sym (add-one k)) in
          let one = c.in_ok-next.ensures s v.1 scope p.reference p.type in
          let behind = c.in_ok-at.ensures s v.1 scope p.reference p.type in
          let x = argument_of s.globals v.1 c.loop-e.at (coded_term s e made.temps) (coded_variable s e made.temps) in
          let rest : ℕ → ℕ → CodedArguments = λ at low. coded_arguments s (erase.expressions (tree.expressions_of (map tree.expression (drop (k + 1) all)))) (drop (k + 1) ps) at low in
          let left : List Expression → CodedArguments = λ es. coded_arguments s (erase.expressions (tree.expressions_of (map tree.expression es))) (drop k ps) c.loop-e.at made.temps in
          let step : left (drop k all) ≡ with_argument x (rest c.in_ok-at.at next.temps) =
          at_drop_more left all k o c.loop-e-test.true
          ∙ (ap (λ q. left (q ∷ drop (k + 1) all)) (sym c.e-item.is)
          ∙ (ap (λ qs. coded_arguments s (erase.expressions (tree.expressions_of (map tree.expression (o ∷ drop (k + 1) all)))) qs c.loop-e.at made.temps) split
          ∙ (λ i. with_argument x (rest (sym behind i) (sym one.temps i))))) in
          one_made (map coded_call c.args.calls.now.items) c.loop-e.calls.items after made (record { arguments = c.push.new.self; temps = next.temps }) next x
          (rest c.in_ok-at.at next.temps)
          (coded_arguments s (erase.expressions (tree.expressions_of (map tree.expression all))) ps c.args.at c.args.low)
          (subst (λ r. Finishes (map coded_call c.args.calls.now.items) c.loop-e.calls.items made r
          (coded_arguments s (erase.expressions (tree.expressions_of (map tree.expression all))) ps c.args.at c.args.low)) step
          (c.loop-e.invariant.so_far s ps scope declared)) one c.in_ok-push.ensures.items;
    }

pub arguments-returns-in_default : goal.arguments-returns-in_default
arguments-returns-in_default t c = λ s ps scope declared.
    let k = c.loop-e.e-index in
    let all = c.args.es.now in
    let made = c.loop-e.made in
    let before = map coded_call c.args.calls.now.items in
    let es = erase.expressions (tree.expressions_of (map tree.expression (drop k all))) in
    let whole = coded_arguments s (erase.expressions (tree.expressions_of (map tree.expression all))) ps c.args.at c.args.low in
    let none : length c.args.parameters.now ≤ c.len.result = rw c.in_default.is at c.get.ensures.lookup.3 in
    let past : length c.args.parameters.now ≤ k = omega (arith, none, c.len.ensures, c.loop-e.invariant.count, made.arguments.ok.0) in
    all_made before c.loop-e.calls.items made whole
    (subst (λ r. Finishes before c.loop-e.calls.items made r whole)
    (ap (λ qs. coded_arguments s es qs c.loop-e.at made.temps) (parameters_past c.args.self.now.scope.tables.now.types c.args.parameters.now ps k declared past)
    ∙ no_parameters s es c.loop-e.at made.temps) (c.loop-e.invariant.so_far s ps scope declared))

pub user_call-returns : goal.user_call-returns
user_call-returns t c =
    let before = map coded_call c.args.calls.now.items in
    let es = erase.expressions (tree.expressions_of (map tree.expression c.args.es.now)) in
    let routine = c.args.callee.now.routine.table.now in
    let types = c.args.self.now.scope.tables.now.types in
    if_ok c.function_call.result
    (λ made h s d scope is.
    let declared = c.passed.ensures s.globals types d.routine is.routine.table in
    let at : c.words_before.result ≡ first_parameter d = c.words_before.ensures s.globals types d.routine is.routine.table in
    let xs = c.in_ok-xs.ensures s (parameters_of s d) scope declared in
    h s d before (coded_arguments s es (parameters_of s d) (first_parameter d) c.args.low) scope is
    (subst (λ n. AreArguments before c.arguments.new.calls.items c.in_ok-xs.xs (coded_arguments s es (parameters_of s d) n c.args.low)) at xs))
    c.function_call.ensures.term

pub standard_call-returns-then-is_empty_test : goal.standard_call-returns-then-is_empty_test
standard_call-returns-then-is_empty_test t c =
    let before = map coded_call c.args.calls.now.items in
    let after = c.argument_place_expression.new.calls.items in
    let low = c.args.low in
    let e = erase.expression (tree.expression c.args.expression.now) in
    if_ok c.empty.result
    (λ made h s es scope.
    let b = base_of_type (expression_type (environment s) e) in
    subst (IsTerm before after made)
    (sym (standard_empty c.args.name.now b (coded_term s e low) (coded_variable s e low) (sym c.is_empty_test.ensures ∙ c.if-is_empty_test.true)))
    (h before after (coded_variable s e low) (c.in_ok-made.ensures s scope)))
    c.empty.ensures

pub use_term-returns-in-Some : goal.use_term-returns-in-Some
use_term-returns-in-Some t c =
    let calls = c.args.calls.now.items in
    let d = erase.designator (tree.designator c.args.designator.now) in
    let after = c.function_call.new.calls.items in
    let low = c.args.low in
    if_ok c.function_call.result
    (λ made h s scope.
    let found = called_by c.args.self.now.scope s c.in-Some.callee (callee (environment s) d) (rw c.in-Some.is at (c.callee.ensures s scope)) in
    subst (IsTerm (map coded_call calls) after made) (sym (called_as s d a.NoExpression low found.callee found.is))
    (h s found.callee (map coded_call calls) (no_arguments low) scope found.represents
    (nothing_passed calls c.no_arguments-none.result low c.no_arguments-none.ensures.arguments c.no_arguments-none.ensures.temps)))
    c.function_call.ensures.term

pub argument-returns-in_ok-made-in-Some : goal.argument-returns-in_ok-made-in-Some
argument-returns-in_ok-made-in-Some t c = λ s v scope reference represents.
    let before = map coded_call c.args.calls.now.items in
    let after = c.term.new.calls.items in
    let e = erase.expression (tree.expression c.args.expression.now) in
    let simple = (rw (c.tables.ensures, c.in-Some.is) at c.simple.ensures) v.type represents in
    valued before after c.simple_value.result s.globals v c.args.at (coded_term s e c.args.low) (coded_variable s e c.args.low) (simple_of c.in-Some.simple)
    (sym reference ∙ c.if-parameter.false) simple
    (c.simple_value.ensures before after s.globals (coded_term s e c.args.low) (coded_variable s e c.args.low) (c.in_ok-made-in-Some.ensures s scope))

pub argument-returns-in_ok-made-in-None : goal.argument-returns-in_ok-made-in-None
argument-returns-in_ok-made-in-None t c =
    let before = map coded_call c.args.calls.now.items in
    let after = c.argument_place_expression-in-None.new.calls.items in
    let e = erase.expression (tree.expression c.args.expression.now) in
    if_ok c.copy_argument.result
    (λ made h s v scope reference represents.
    let other = (rw (c.tables.ensures, c.in-None.is) at c.simple.ensures) v.type represents in
    valued before after made s.globals v c.args.at (coded_term s e c.args.low) (coded_variable s e c.args.low) v.type
    (sym reference ∙ c.if-parameter.false) refl
    (h before after s v.type (coded_term s e c.args.low) (coded_variable s e c.args.low) scope represents other (c.in_ok-made-in-None.ensures s scope)))
    c.copy_argument.ensures

pub term-returns-in-Some : goal.term-returns-in-Some
term-returns-in-Some t c =
    let before = map coded_call c.args.calls.now.items in
    let after = c.user_call.new.calls.items in
    let low = c.args.low in
    let d = tree.designator c.in-Call.d.value in
    let es = tree.expressions_of (map tree.expression c.in-Call.es.items) in
    let v : tree.expression c.args.expression.now ≡ syntax.Call d es = rw c.in-Call.is (view_call c.in-Call.d c.in-Call.es) in
    if_ok c.user_call.result
    (λ made h s scope.
    let found = called_by c.args.self.now.scope s c.in-Some.callee (callee (environment s) (erase.designator d))
    (rw (c.in-Some.is, c.deref-in-len1-up.ensures) at (c.callee.ensures s scope)) in
    seen_as before after made s low (tree.expression c.args.expression.now) (syntax.Call d es) v
    (subst (IsTerm before after made) (sym (called_as s (erase.designator d) (erase.expressions es) low found.callee found.is))
    ((rw c.deref-in-Some.ensures.value at h) s found.callee scope found.represents)))
    c.user_call.ensures

pub term-returns-in-None : goal.term-returns-in-None
term-returns-in-None t c =
    let before = map coded_call c.args.calls.now.items in
    let after = c.standard_call.new.calls.items in
    let low = c.args.low in
    let d = tree.designator c.in-Call.d.value in
    let x = erase.designator d in
    let es = tree.expressions_of (map tree.expression c.in-Call.es.items) in
    let v : tree.expression c.args.expression.now ≡ syntax.Call d es = rw c.in-Call.is (view_call c.in-Call.d c.in-Call.es) in
    let o = c.first-item.result in
    let e = erase.expression (tree.expression o) in
    let ss = c.as_slice.result.now in
    let split : c.in-Call.es.items ≡ o ∷ drop 1 ss = sym c.as_slice.ensures.value ∙ first_at ss o c.in-len1-up.len_at_least c.first-item.is in
    let rest = erase.expressions (tree.expressions_of (map tree.expression (drop 1 ss))) in
    if_ok c.standard_call.result
    (λ made h s scope.
    let none = none_called c.args.self.now.scope s (callee (environment s) x) (rw (c.in-None.is, c.deref-in-len1-up.ensures) at (c.callee.ensures s scope)) in
    seen_as before after made s low (tree.expression c.args.expression.now) (syntax.Call d es) v
    (subst (λ xs. IsTerm before after made (coded_term s (erase.call_or_name x (erase.expressions (tree.expressions_of (map tree.expression xs)))) low)) (sym split)
    (subst (IsTerm before after made) (sym (standard_as s x e rest low none))
    (subst (λ n. IsTerm before after made (coded_standard s n (a.MoreExpressions e rest) low)) (rw c.deref-in-None.ensures at c.lone_name.ensures) (h s rest scope)))))
    c.standard_call.ensures

pub term-returns-in-empty : goal.term-returns-in-empty
term-returns-in-empty t c =
    let made_of = IsTerm (map coded_call c.args.calls.now.items) c.use_term-in-empty.new.calls.items in
    let is = ap meant c.in-Call.is ∙ bare_call c.in-Call.d c.in-Call.es (rw c.as_slice.ensures.value at c.in-empty.len_below) in
    if_ok c.use_term-in-empty.result
    (λ made h s scope. subst (λ x. made_of made (coded_term s x c.args.low)) (sym is) (h s scope)) (rw c.deref.ensures at c.use_term-in-empty.ensures)

pub argument_place_expression-returns-in-len1-up : goal.argument_place_expression-returns-in-len1-up
argument_place_expression-returns-in-len1-up t c = λ s scope.
    other_place_expression _ _ s _ _ _ c.in-Call.is (no_bare_call _ _ (rw c.as_slice.ensures.value at c.in-len1-up.len_at_least)) (c.first_word.ensures _)

pub argument_place_expression-returns-in-empty-as_slice : goal.argument_place_expression-returns-in-empty-as_slice
argument_place_expression-returns-in-empty-as_slice t c =
    let made_of = IsPlaceExpression (map coded_call c.args.calls.now.items) c.argument_place_expression-in-empty-as_slice.new.calls.items in
    let is = ap meant c.in-Chain.is ∙ bare_chain c.in-Chain.first c.in-Chain.rest (rw c.as_slice-in-Chain.ensures.value at c.in-empty-as_slice.len_below) in
    if_ok c.argument_place_expression-in-empty-as_slice.result
    (λ made h s scope. subst (λ x. made_of made (coded_variable s x c.args.low)) (sym is) ((rw c.deref-in-empty-as_slice.ensures at h) s scope))
    c.argument_place_expression-in-empty-as_slice.ensures

pub argument_place_expression-returns-in-len1-up-as_slice : goal.argument_place_expression-returns-in-len1-up-as_slice
argument_place_expression-returns-in-len1-up-as_slice t c = λ s scope.
    other_place_expression _ _ s _ _ _ c.in-Chain.is (no_bare_chain _ _ (rw c.as_slice-in-Chain.ensures.value at c.in-len1-up-as_slice.len_at_least))
    (c.first_word-in-len1-up-as_slice.ensures _)

pub argument_place_expression-returns-in-Number : goal.argument_place_expression-returns-in-Number
argument_place_expression-returns-in-Number t c = λ s scope. other_place_expression _ _ s _ _ _ c.in-Number.is (no_number _ _) (c.first_word-in-Number.ensures _)

pub argument_place_expression-returns-in-Character : goal.argument_place_expression-returns-in-Character
argument_place_expression-returns-in-Character t c = λ s scope. other_place_expression _ _ s _ _ _ c.in-Character.is (no_character _ _) (c.first_word-in-Character.ensures _)

pub argument_place_expression-returns-in-Not : goal.argument_place_expression-returns-in-Not
argument_place_expression-returns-in-Not t c = λ s scope. other_place_expression _ _ s _ _ _ c.in-Not.is (no_not _ _) (c.first_word-in-Not.ensures _)

pub argument_place_expression-returns-in-Signed : goal.argument_place_expression-returns-in-Signed
argument_place_expression-returns-in-Signed t c = λ s scope. other_place_expression _ _ s _ _ _ c.in-Signed.is (no_signed _ _ _) (c.first_word-in-Signed.ensures _)
