-- The code judges operands, indices and arguments one after another and keeps one violation; the definition joins lists
-- of violations. Each answer splits the definition's list where the code calls, and the earliest of a list is the
-- earliest of its parts. A loop's invariant says so of what was read so far, grouped to the left as the definition does.
use Rattle.std.proofs.Common.{◌≡◌, ◌+◌, ◌-◌, ◌≤◌, ◌∷◌, map, take, drop, length, slice_get, ap, sym, ◌∙◌, refl, arith}
use Rattle.std.proofs.lemmas.Bool.Decides.{nat_tests}
use Rattle.std.proofs.lemmas.List.{at_drop_more}
use Rattle.cp_model.specs.Syntax as s
use Rattle.cp_model.specs.Syntax.{chain_of}
use Rattle.cp_model.specs.declared.rules.Mode.TheVariants as mode
use Rattle.cp_model.specs.RulesExpressions as x
use Rattle.cp_model.specs.RulesJudged.{both}
use Rattle.cp_model.specs.RulesNames as n
use Rattle.cp_model.specs.View.{designator, expression, index, operation, indices_of, expressions_of}
use Rattle.cp_rules_body.specs.Arguments.{form_rules}
use Rattle.cp_rules_body.specs.Callees.{wants_of, result_if}
use Rattle.cp_rules_body.specs.ExpressionParts as parts
use Rattle.cp_rules_body.proofs.ExpressionsReported.{argument_parts, first_operand_again, judge_chain, more_step, first_reported, count_expressions, wants_reported, result_reported}
use Rattle.cp_rules_body.proofs.CalleesReported.{also_callee}
use Rattle.cp_rules_body.proofs.Reports.{also_reported}
use Rattle.cp_model.proofs.Views.{view_call, view_chain, view_index, view_operation}
use Rattle.cp_rules_body.proofs.expressions.+judge.Goals as goal

pub argument-returns : goal.argument-returns
argument-returns t c =
    let env = c.args.env.now in
    let e = expression c.args.value.now in
    let w = c.in-Some.want in
    rw (c.in-Some.is, argument_parts env w e (x.judge env (x.mode_of w) e), c.answer_if.ensures)
    (also_reported c.args.diagnostics.now c.has_form-has_form.new.diagnostics c.type_of_argument-t.new.diagnostics c.has_form-has_form.result (form_rules env w e)
    c.type_of_argument-t.result (parts.type_of_argument env w e) c.has_form-has_form.ensures c.type_of_argument-t.ensures)

pub chain-loop-o-preserved : goal.chain-loop-o-preserved
chain-loop-o-preserved t c = λ t0 m e diagnostics.
    let env = c.args.env.now in
    let so_far = c.loop-o.invariant t0 m e diagnostics in
    let f = so_far.0 in
    let o = c.o-item.result in
    let i = c.loop-o.o-index in
    let rest = c.args.rest.now in
    let step : chain_of f (map operation (drop i rest)) ≡ chain_of f (map operation (o ∷ drop (i + 1) rest)) =
    at_drop_more (λ os. chain_of f (map operation os)) rest i o c.loop-o-test.true ∙ ap (λ p. chain_of f (map operation (p ∷ drop (i + 1) rest))) (sym c.o-item.is) in
    let view = ap (λ p. chain_of f (p ∷ map operation (drop (i + 1) rest))) (view_operation o) in (
      s.Binary f o.operator o.at (expression o.operand),
      rw (first_operand_again m) (c.judge_operation-left.ensures t0 c.loop-o.diagnostics (x.judge env (x.first_operand m) f) (x.judge env mode.Value (expression o.operand)) so_far.1 c.judge-right.ensures),
      sym (step ∙ view) ∙ so_far.2,
    )

pub select_elements-loop-i-preserved : goal.select_elements-loop-i-preserved
select_elements-loop-i-preserved t c = λ t0 j diagnostics.
    let env = c.args.env.now in
    let so_far = c.loop-i.invariant t0 j diagnostics in
    let k = so_far.0 in
    let o = c.i-item.result in
    let i = c.loop-i.i-index in
    let all = c.args.indices.now in
    let e = expression o.value in
    let step : x.apply_indices env k (indices_of (map index (drop i all))) ≡ x.apply_indices env k (indices_of (map index (o ∷ drop (i + 1) all))) =
    at_drop_more (λ os. x.apply_indices env k (indices_of (map index os))) all i o c.loop-i-test.true ∙ ap (λ p. x.apply_indices env k (indices_of (map index (p ∷ drop (i + 1) all)))) (sym c.i-item.is) in
    let view = ap (λ p. x.apply_indices env k (indices_of (p ∷ map index (drop (i + 1) all)))) (view_index o) in (
      both (parts.array_of env o.at k) (x.judge env mode.Value e) (n.c2_index env (n.first_token e)),
      (rw c.first_token.ensures at c.element_if-part.ensures) t0 c.array_if-of.new.diagnostics (parts.array_of env o.at k) (x.judge env mode.Value e)
          (c.array_if-of.ensures t0 k so_far.1) c.judge-t.ensures,
      sym (step ∙ view) ∙ so_far.2,
    )

pub arguments-loop-number-preserved : goal.arguments-loop-number-preserved
arguments-loop-number-preserved t c =
    let env = c.args.env.now in
    let ws = wants_of env c.args.wants in
    let all = c.args.list.now in
    let rest = take (length all - 1) (drop 1 all) in
    let i = c.loop-number.number in
    let so_far = c.loop-number.invariant in
    let j = so_far.0 in
    let o = c.index-rest-number.result in
    let e = expression o in
    let step : x.more_arguments env j (drop (i + 1) ws) (expressions_of (map expression (drop i rest))) ≡ x.more_arguments env j (drop (i + 1) ws) (expressions_of (map expression (o ∷ drop (i + 1) rest))) =
    at_drop_more (λ os. x.more_arguments env j (drop (i + 1) ws) (expressions_of (map expression os))) rest i o c.loop-number-test.true
    ∙ ap (λ p. x.more_arguments env j (drop (i + 1) ws) (expressions_of (map expression (p ∷ drop (i + 1) rest)))) (sym c.index-rest-number.is) in
    let next = more_step env j ws (i + 1) (i + 1 + 1) e (expressions_of (map expression (drop (i + 1) rest))) refl in
    let k = parts.argument_for env (slice_get ws (i + 1)) e in (
      both j k x.first_type,
      rw c.and-t.ensures (first_reported c.args.diagnostics.now c.loop-number.diagnostics c.argument-u.new.diagnostics c.loop-number.t c.argument-u.result j k so_far.1
          (rw c.want-in-loop-number.ensures at c.argument-u.ensures)),
      sym (step ∙ next) ∙ so_far.2,
    )

pub judge-returns-else-is_empty : goal.judge-returns-else-is_empty
judge-returns-else-is_empty t c =
    let env = c.args.env.now in
    let e = expression c.in-Chain.first.value in
    let rest = c.in-Chain.rest.items in
    let v : expression c.args.value.now ≡ chain_of e (map operation rest) = rw c.in-Chain.is (view_chain c.in-Chain.first c.in-Chain.rest) in
    let some : 1 ≤ length rest = grind (arith, nat_tests) in
    let left = rw (c.first_operand-in-Chain.ensures, c.deref-in-Chain.ensures) at c.judge-left.ensures in
    rw (v, judge_chain env c.args.mode e rest some) (rw c.deref-in-Chain-2.ensures.value at (c.chain.ensures c.args.diagnostics.now c.args.mode e left))

pub judge-returns-in-Call : goal.judge-returns-in-Call
judge-returns-in-Call t c =
    let env = c.args.env.now in
    let d = designator c.in-Call.d.value in
    let list = c.in-Call.list.items in
    let es = expressions_of (map expression list) in
    let v : expression c.args.value.now ≡ s.Call d es = rw c.in-Call.is (view_call c.in-Call.d c.in-Call.list) in
    let count : c.len.result ≡ n.count_of es = c.len.ensures ∙ sym c.deref-in-Call-2.ensures.len ∙ ap length c.deref-in-Call-2.ensures.value ∙ sym (count_expressions list) in
    let jc = parts.callee_of env c.args.mode d (n.count_of es) in
    let ja = x.arguments env (x.wants_in env (x.designate env d) jc) es in
    let callee = rw (c.deref-in-Call.ensures, count) at c.judge_callee-called.ensures.callee in
    let wanted = rw (c.deref-in-Call.ensures, count) at c.judge_callee-called.ensures.wants in
    let given = rw (wanted, c.deref-in-Call-2.ensures.value) at c.arguments-t.ensures in
    let result = result_reported env c.names_fit-fits.new.diagnostics c.judge_callee-called.new.diagnostics c.arguments-t.new.diagnostics c.judge_callee-called.result.callee c.arguments-t.result jc ja callee given in
    rw (v, c.answer_if.ensures, c.result.ensures) (also_reported c.args.diagnostics.now c.names_fit-fits.new.diagnostics c.arguments-t.new.diagnostics c.names_fit-fits.result
    (n.c2_c5_c8_named env (x.first_operand c.args.mode) d) (result_if env c.judge_callee-called.result.callee c.arguments-t.result) (both jc ja (x.result_of env))
    (rw (c.first_operand.ensures, c.deref.ensures) at c.names_fit-fits.ensures) result)

pub judge_use-returns : goal.judge_use-returns
judge_use-returns t c =
    let env = c.args.env.now in
    let d = designator c.args.designated.now in
    rw c.answer_if.ensures (also_reported c.args.diagnostics.now c.names_fit-fits.new.diagnostics c.type_of_designator-t.new.diagnostics c.names_fit-fits.result (n.c2_c5_c8_named env c.args.mode d)
    c.type_of_designator-t.result (parts.type_of_designator env c.args.mode d) c.names_fit-fits.ensures c.type_of_designator-t.ensures)

pub judge_callee-returns-clause-callee : goal.judge_callee-returns-clause-callee
judge_callee-returns-clause-callee t c =
    let env = c.args.env.now in
    let d = designator c.args.designated.now in
    let je = x.designate env d in
    let t1 = c.no_indexed_value-no_value.new.diagnostics in
    rw c.answer_if-callee.ensures (also_callee env c.args.diagnostics.now t1 c.function_if-function.new.diagnostics c.no_indexed_value-no_value.result (n.c2_indexed env c.args.mode d)
    c.function_if-function.result (parts.function_if env c.args.mode d c.args.count je) c.no_indexed_value-no_value.ensures
    (c.function_if-function.ensures t1 je c.judge_designator-entity.ensures))

pub judge_callee-returns-clause-wants : goal.judge_callee-returns-clause-wants
judge_callee-returns-clause-wants t c =
    let env = c.args.env.now in
    let d = designator c.args.designated.now in
    let je = x.designate env d in
    c.wants_of_call.ensures ∙ wants_reported env c.judge_designator-entity.result je c.answer_if-callee.result (parts.callee_of env c.args.mode d c.args.count) c.judge_designator-entity.ensures.1
    (judge_callee-returns-clause-callee t c).1
