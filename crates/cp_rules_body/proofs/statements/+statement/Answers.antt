-- A statement's violations are those of its parts in text order, and the earliest of two lists together is found by
-- continuing with the second from the earliest of the first: each answer is that fact, once for each part that is judged.
-- Only memory can stop the walk, and then nothing is claimed.
use Rattle.std.proofs.Common.{◌≡◌, ◌+◌, ◌++◌, ◌∷◌, [], map, drop, ap, sym, ◌∙◌}
use Rattle.std.proofs.lemmas.List.{at_drop_more}
use Rattle.std.proofs.lemmas.Result.{on_ok_weaker}
use Rattle.cp_model.specs.Syntax as s
use Rattle.cp_model.specs.RulesJudged.{least, violations_of}
use Rattle.cp_model.specs.RulesStatements as st
use Rattle.cp_model.specs.View.{expression, statement, statements_of, arm, arms_of}
use Rattle.cp_rules_body.specs.StatementParts as parts
use Rattle.cp_rules_body.proofs.LabelsReported.{arms_reported, base_reported}
use Rattle.cp_model.proofs.StatementViews.{view_if, view_if_else, view_case, view_while, view_repeat, view_for, view_arm}
use Rattle.cp_rules_body.proofs.Reports.{more_reported, then_reported, rest_reported}
use Rattle.cp_rules_body.proofs.statements.+statement.Goals as goal

pub judge_branch-returns : goal.judge_branch-returns
judge_branch-returns t c =
    let env = c.args.env.now in
    on_ok_weaker c.statement.result
    (more_reported c.args.diagnostics.now c.condition.new.diagnostics c.statement.new.diagnostics (violations_of (st.c2_condition env (expression c.args.expression.now))) (st.statement env (statement c.args.body.now))
    c.condition.ensures.0)
    c.statement.ensures

pub judge_for-returns : goal.judge_for-returns
judge_for-returns t c =
    let env = c.args.env.now in
    let h = c.args.header.now in
    let header = parts.for_header env h.variable (expression h.from) (expression h.last) in
    on_ok_weaker c.statement.result
    (more_reported c.args.diagnostics.now c.for_header.new.diagnostics c.statement.new.diagnostics header (st.statement env (statement c.args.body.now)) c.for_header.ensures)
    c.statement.ensures

pub judge_case-returns : goal.judge_case-returns
judge_case-returns t c =
    let env = c.args.env.now in
    let j = st.c2_selector env (expression c.args.expression.now) in
    let base = base_reported env c.selector-t.result j c.selector-t.ensures.1 in
    on_ok_weaker c.judge_arms.result
    (more_reported c.args.diagnostics.now c.selector-t.new.diagnostics c.judge_arms.new.diagnostics (violations_of j) (st.arms env (st.selector_base env j) [] (arms_of (map arm c.args.arms.now)))
    c.selector-t.ensures.0)
    (rw (c.selector_base.ensures, base) at c.judge_arms.ensures)

pub judge_repeat-returns : goal.judge_repeat-returns
judge_repeat-returns t c =
    let env = c.args.env.now in
    more_reported c.args.diagnostics.now c.statements.new.diagnostics c.condition.new.diagnostics (st.statements env (statements_of (map statement c.args.body.now)))
    (violations_of (st.c2_condition env (expression c.args.expression.now))) c.in_ok-statements.ensures c.condition.ensures.0

pub statement-returns-in_ok-judge_branch-in-If : goal.statement-returns-in_ok-judge_branch-in-If
statement-returns-in_ok-judge_branch-in-If t c =
    let v : statement c.args.judged.now ≡ s.If (expression c.in-If.e.value) (statement c.in-If.then.value) = rw c.in-If.is (view_if c.in-If.e c.in-If.then) in
    (rw (c.deref-in-If.ensures, c.deref-in-If-2.ensures) at c.in_ok-judge_branch-in-If.ensures) ∙ ap (λ x. least c.args.diagnostics.now (st.statement c.args.env.now x)) (sym v)

pub statement-returns-in_ok-judge_branch-in-While : goal.statement-returns-in_ok-judge_branch-in-While
statement-returns-in_ok-judge_branch-in-While t c =
    let v : statement c.args.judged.now ≡ s.While (expression c.in-While.e.value) (statement c.in-While.body.value) = rw c.in-While.is (view_while c.in-While.e c.in-While.body) in
    (rw (c.deref-in-While.ensures, c.deref-in-While-2.ensures) at c.in_ok-judge_branch-in-While.ensures) ∙ ap (λ x. least c.args.diagnostics.now (st.statement c.args.env.now x)) (sym v)

pub statement-returns-in_ok-statement-in-IfElse : goal.statement-returns-in_ok-statement-in-IfElse
statement-returns-in_ok-statement-in-IfElse t c =
    let env = c.args.env.now in
    let e = expression c.in-IfElse.e.value in
    let x = statement c.in-IfElse.branches.value.0 in
    let y = statement c.in-IfElse.branches.value.1 in
    let v : statement c.args.judged.now ≡ s.IfElse e x y = rw c.in-IfElse.is (view_if_else c.in-IfElse.e c.in-IfElse.branches) in
    then_reported c.args.diagnostics.now c.judge_branch-in-IfElse.new.diagnostics c.statement.new.diagnostics (violations_of (st.c2_condition env e) ++ st.statement env x) (st.statement env y)
    (st.statement env (statement c.args.judged.now)) (rw (c.deref-in-IfElse.ensures, c.deref-in-IfElse-2.ensures) at c.in_ok-judge_branch-in-IfElse.ensures)
    (rw c.deref-in-IfElse-3.ensures at c.in_ok-statement-in-IfElse.ensures) (ap (st.statement env) v)

pub statement-returns-in_ok-judge_case-in-Case : goal.statement-returns-in_ok-judge_case-in-Case
statement-returns-in_ok-judge_case-in-Case t c =
    let v : statement c.args.judged.now ≡ s.Case (expression c.in-Case.e.value) (arms_of (map arm c.in-Case.arms.value.items)) = rw c.in-Case.is (view_case c.in-Case.e c.in-Case.arms) in
    (rw (c.deref-in-Case-2.ensures.value, c.deref-in-Case.ensures, c.deref-in-Case-3.ensures) at c.in_ok-judge_case-in-Case.ensures) ∙ ap (λ x. least c.args.diagnostics.now (st.statement c.args.env.now x)) (sym v)

pub statement-returns-in_ok-judge_repeat-in-Repeat : goal.statement-returns-in_ok-judge_repeat-in-Repeat
statement-returns-in_ok-judge_repeat-in-Repeat t c =
    let v : statement c.args.judged.now ≡ s.Repeat (statements_of (map statement c.in-Repeat.body.value.items)) (expression c.in-Repeat.e.value) = rw c.in-Repeat.is (view_repeat c.in-Repeat.body c.in-Repeat.e) in
    (rw (c.deref-in-Repeat-2.ensures.value, c.deref-in-Repeat.ensures, c.deref-in-Repeat-3.ensures) at c.in_ok-judge_repeat-in-Repeat.ensures) ∙ ap (λ x. least c.args.diagnostics.now (st.statement c.args.env.now x)) (sym v)

pub statement-returns-in_ok-judge_for-in-For : goal.statement-returns-in_ok-judge_for-in-For
statement-returns-in_ok-judge_for-in-For t c =
    let h = c.in-For.header.value in
    let v : statement c.args.judged.now ≡ s.For h.variable (expression h.from) h.direction (expression h.last) (statement c.in-For.body.value) =
    rw c.in-For.is (view_for c.in-For.header c.in-For.body) in
    (rw (c.deref-in-For.ensures, c.deref-in-For-2.ensures) at c.in_ok-judge_for-in-For.ensures) ∙ ap (λ x. least c.args.diagnostics.now (st.statement c.args.env.now x)) (sym v)

pub statements-loop-s-preserved : goal.statements-loop-s-preserved
statements-loop-s-preserved t c =
    let env = c.args.env.now in
    let all = c.args.list.now in
    let i = c.loop-s.s-index in
    let o = c.s-item.result in
    let step : st.statements env (statements_of (map statement (drop i all))) ≡ st.statements env (statements_of (map statement (o ∷ drop (i + 1) all))) =
    at_drop_more (λ os. st.statements env (statements_of (map statement os))) all i o c.loop-s-test.true
    ∙ ap (λ p. st.statements env (statements_of (map statement (p ∷ drop (i + 1) all)))) (sym c.s-item.is) in
    rest_reported c.loop-s.diagnostics c.statement.new.diagnostics (st.statement env (statement o)) (st.statements env (statements_of (map statement (drop (i + 1) all)))) _
    c.in_ok-statement.ensures step ∙ c.loop-s.invariant

pub judge_arms-loop-a-preserved : goal.judge_arms-loop-a-preserved
judge_arms-loop-a-preserved t c =
    let env = c.args.env.now in
    let base = c.args.base in
    let all = c.args.list.now in
    let i = c.loop-a.a-index in
    let o = c.a-item.result in
    let seen = c.loop-a.seen in
    let rest = arms_of (map arm (drop (i + 1) all)) in
    let one = st.labels env base seen o.labels.items in
    let body = st.statement env (statement o.body) in
    let step : st.arms env base seen (arms_of (map arm (drop i all))) ≡ st.arms env base seen (arms_of (map arm (o ∷ drop (i + 1) all))) =
    at_drop_more (λ os. st.arms env base seen (arms_of (map arm os))) all i o c.loop-a-test.true
    ∙ ap (λ p. st.arms env base seen (arms_of (map arm (p ∷ drop (i + 1) all)))) (sym c.a-item.is) in
    let view = ap (λ p. st.arms env base seen (arms_of (p ∷ map arm (drop (i + 1) all)))) (view_arm o) in
    let diagnostics = rw c.deref.ensures.value at c.in_ok-judge_labels.ensures.diagnostics in
    let seen_then = rw c.deref.ensures.value at c.in_ok-judge_labels.ensures.seen in
    let behind = ap (λ vs. (one.violations ++ body) ++ vs) (sym (arms_reported env base c.judge_labels.new.seen one.seen rest seen_then)) in
    rest_reported c.loop-a.diagnostics c.statement.new.diagnostics (one.violations ++ body) (st.arms env base c.judge_labels.new.seen rest) _
    (more_reported c.loop-a.diagnostics c.judge_labels.new.diagnostics c.statement.new.diagnostics one.violations body diagnostics c.in_ok-statement.ensures)
    (step ∙ view ∙ behind)
    ∙ c.loop-a.invariant
