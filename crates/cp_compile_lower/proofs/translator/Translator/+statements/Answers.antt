-- Statements are emitted from the last one back, so each knows where the next one is entered: the loops' invariant is
-- that the operations so far are the definition's for the rest of the list. A loop statement reserves its closing
-- operation first and completes it after its body, which is what the definition writes there at once.
use Rattle.std.proofs.Common.{rules, ◌≡◌, ◌∷◌, ◌++◌, ◌+◌, ◌-◌, ◌<◌, ◌∙◌, ℕ, List, ap, arith, drop, length, map, reverse, subst, suc, sym}
use Rattle.std.proofs.lemmas.List.{at_drop_more}
use Rattle.cp_model.specs.Abstract as a
use Rattle.cp_model.specs.Erase as erase
use Rattle.cp_model.specs.Syntax as syntax
use Rattle.cp_model.specs.View as tree
use Rattle.cp_model.specs.declared.tree.Arm.{Arm}
use Rattle.cp_model.specs.declared.tree.Statement.{Statement}
use Rattle.cp_model_program.specs.CodedStatements.{Emitted, EmittedArms, calls_at, emitted, emitted_arms, table_of, with_calls}
use Rattle.cp_model_program.specs.CodedTerms.{coded_term}
use Rattle.cp_model_program.specs.Programs as op
use Rattle.cp_compile_emit.specs.Emission.{Emits, place_of, with_body, with_repeated}
use Rattle.cp_program.specs.View as view
use Rattle.cp_compile_lower.specs.Statements.{ArmsEnter, Enters}
use Rattle.cp_compile_lower.proofs.Counting.{for_entered}
use Rattle.cp_compile_lower.proofs.Sequencing.{body_made, if_entered, loop_made, nothing_entered, seq_entered, then_entered}
use Rattle.cp_compile_lower.proofs.Cases.{arm_entered}
use Rattle.cp_model.proofs.StatementViews.{view_arm, view_case, view_cycle, view_if, view_if_else}
use Rattle.cp_model.proofs.Results.{if_ok}
use Rattle.cp_compile_lower.proofs.translator.Translator.+statements.Goals as goal

pub statements-loop-i-preserved : goal.statements-loop-i-preserved
statements-loop-i-preserved t c = λ s scope.
    let all = c.args.list.now in
    let i = c.loop-i.i in
    let o = c.index-list-i.result in
    let old = c.args.emitter.now in
    let x = erase.statement (tree.statement o) in
    let y = erase.statements (tree.statements_of (map tree.statement (drop i all))) in
    let made : List Statement → Emitted =
    λ xs. emitted s (erase.statements (tree.statements_of (map tree.statement xs))) c.args.low (place_of old) c.args.next in
    let within : i - 1 < length all = omega arith in
    let next : i - 1 + 1 ≡ i = omega arith in
    let split : made (drop (i - 1) all) ≡ made (o ∷ drop i all) =
    at_drop_more made all (i - 1) o within
    ∙ (ap (λ (z : Statement). made (z ∷ drop (i - 1 + 1) all)) (sym c.index-list-i.is) ∙ ap (λ k. made (o ∷ drop k all)) next) in
    subst (Enters old c.statement.new.emitter c.in_ok-entry.entry) (sym split)
    (seq_entered s x y c.args.low c.args.next c.loop-i.entry c.in_ok-entry.entry old c.loop-i.emitter c.statement.new.emitter (c.loop-i.invariant s scope)
    (c.in_ok-entry.ensures s scope))

pub statements-returns : goal.statements-returns
statements-returns t c =
    λ s scope.
    let all = c.args.list.now in
    let old = c.args.emitter.now in
    let none : c.loop-i.i ≡ 0 = omega arith in
    subst
    (λ k. Enters old c.loop-i.emitter c.loop-i.entry
    (emitted s (erase.statements (tree.statements_of (map tree.statement (drop k all)))) c.args.low (place_of old) c.args.next)) none
    (c.loop-i.invariant s scope)

pub arms-loop-i-preserved : goal.arms-loop-i-preserved
arms-loop-i-preserved t c =
    λ s scope.
    let all = c.args.list.now in
    let i = c.loop-i.i in
    let o = c.index-list-i.result in
    let old = c.args.emitter.now in
    let x = erase.statement (tree.statement o.body) in
    let rest = erase.arms (tree.arms_of (map tree.arm (drop i all))) in
    let labels = map erase.constant o.labels.items in
    let made : List Arm → EmittedArms =
    λ xs. emitted_arms s (erase.arms (tree.arms_of (map tree.arm xs))) c.args.low (place_of old) c.args.next in
    let within : i - 1 < length all = omega arith in
    let next : i - 1 + 1 ≡ i = omega arith in
    let split : made (drop (i - 1) all) ≡ emitted_arms s (a.MoreArms labels x rest) c.args.low (place_of old) c.args.next =
    at_drop_more made all (i - 1) o within
    ∙ (ap (λ (z : Arm). made (z ∷ drop (i - 1 + 1) all)) (sym c.index-list-i.is)
    ∙ (ap (λ k. made (o ∷ drop k all)) next
    ∙ ap (λ v. emitted_arms s (erase.arms (tree.arms_of (v ∷ map tree.arm (drop i all)))) c.args.low (place_of old) c.args.next) (view_arm o))) in
    subst (ArmsEnter old c.statement.new.emitter (reverse c.label.new.arms.items)) (sym split)
    (arm_entered s labels x rest c.args.low c.args.next c.in_ok-entry.entry old c.loop-i.emitter c.statement.new.emitter (reverse c.loop-i.arms.items)
    (reverse c.label.new.arms.items) (c.loop-i.invariant s scope) (c.in_ok-entry.ensures s scope)
    ((rw c.deref.ensures.value at c.in_ok-label.ensures) s scope))

pub arms-returns : goal.arms-returns
arms-returns t c =
    λ s scope.
    let all = c.args.list.now in
    let old = c.args.emitter.now in
    let none : c.loop-i.i ≡ 0 = omega arith in
    let made : ℕ → EmittedArms =
    λ k. emitted_arms s (erase.arms (tree.arms_of (map tree.arm (drop k all)))) c.args.low (place_of old) c.args.next in
    rw c.reverse.ensures.items
    (subst (λ k. ArmsEnter old c.loop-i.emitter (reverse c.loop-i.arms.items) (made k)) none (c.loop-i.invariant s scope))

pub while_loop-returns : goal.while_loop-returns
while_loop-returns t c = λ s scope.
    let old = c.args.emitter.now in
    let e = coded_term s (erase.expression (tree.expression c.args.condition.now)) c.args.low in
    let x = erase.statement (tree.statement c.args.body.now) in
    let first = c.in_ok-first.first in
    let made =
    loop_made (with_body first) old c.test.new.emitter c.statement.new.emitter c.close_loop.new.self e.calls (op.Test e.term 0 c.args.next)
    c.in_ok-place.place c.in_ok-entry.entry first (λ at to. emitted s x c.args.low at to) c.in_ok-place.ensures (c.in_ok-entry.ensures s scope)
    (c.in_ok-first.ensures s scope) c.close_loop.ensures in
    let at = place_of old in
    let calls = calls_at e.calls (suc at) at in
    let body = emitted s x c.args.low (suc at + length calls.operations) calls.entry in
    record {
      entry = made.entered;
      emits = subst (λ n. Emits old c.close_loop.new.self (op.Test e.term n c.args.next ∷ (calls.operations ++ body.operations))) made.body_is made.emits;
    }

pub repeat-returns : goal.repeat-returns
repeat-returns t c = λ s scope.
    let old = c.args.emitter.now in
    let e = coded_term s (erase.expression (tree.expression c.args.condition.now)) c.args.low in
    let x = erase.statements (tree.statements_of (map tree.statement c.args.list.now)) in
    let first = c.in_ok-first.first in
    let made =
    loop_made (with_repeated first) old c.test.new.emitter c.statements.new.emitter c.close_repeat.new.self e.calls (op.Test e.term c.args.next 0)
    c.in_ok-place.place c.in_ok-entry.entry first (λ at to. emitted s x c.args.low at to) c.in_ok-place.ensures (c.in_ok-entry.ensures s scope)
    (c.in_ok-first.ensures s scope) c.close_repeat.ensures in
    let at = place_of old in
    let calls = calls_at e.calls (suc at) at in
    let body = emitted s x c.args.low (suc at + length calls.operations) calls.entry in
    record {
      entry = made.body_is;
      emits = subst (λ n. Emits old c.close_repeat.new.self (op.Test e.term c.args.next n ∷ (calls.operations ++ body.operations))) made.body_is made.emits;
    }

pub for_loop-returns : goal.for_loop-returns
for_loop-returns t c =
    let old = c.args.emitter.now in
    let open' = c.in_ok-counting.counting in
    let first = c.in_ok-first.first in
    let inner : c.in_ok-inner.inner ≡ c.args.low + 2 = search rules in
    if_ok c.start_counting.result
    (λ place h s scope.
    let y = erase.statement (tree.statement c.args.body.now) in
    let header = c.args.header.now in
    let e = erase.expression (tree.expression header.from) in
    let f = erase.expression (tree.expression header.last) in
    let counts = rw c.as_bytes-name.ensures at (c.in_ok-counting.ensures s scope) in
    let closed =
    body_made (with_body first) old c.push.new.self c.statement.new.emitter c.close_loop.new.self (op.ForNext (view.counting open')) c.in_ok-place.place first
    (λ at to. emitted s y (c.args.low + 2) at to) c.in_ok-place.ensures.place c.in_ok-place.ensures.emits
    (subst (λ n. Enters c.push.new.self c.statement.new.emitter first (emitted s y n (place_of c.push.new.self) c.in_ok-place.place)) inner
    (c.in_ok-first.ensures s scope)) c.close_loop.ensures in
    let start : op.Counting = record (view.counting open') { body = first } in
    let begins =
    subst
    (λ n. Enters c.close_loop.new.self c.start_counting.new.emitter place
    (with_calls ((coded_term s e n).calls ++ (coded_term s f (coded_term s e n).temps).calls)
    (op.For start (coded_term s e n).term (coded_term s f (coded_term s e n).temps).term) (place_of c.close_loop.new.self)))
    (ap (λ (k : op.Counting). k.temp) counts) (h s scope) in
    for_entered s header.variable.name (erase.is_down header.direction) e f y c.args.low c.args.next first place (view.counting open') old
    c.close_loop.new.self c.start_counting.new.emitter counts closed begins)
    c.start_counting.ensures.enters

pub cycle-returns : goal.cycle-returns
cycle-returns t c = λ next s scope.
    let old = c.args.emitter.now in
    let x = erase.statements (tree.statements_of (map tree.statement c.args.list.now)) in
    let first = c.in_ok-first.first in
    let closed =
    body_made (with_body first) old c.push.new.self c.statements.new.emitter c.close_loop.new.self (op.Cycle 0) c.in_ok-place.place first
    (λ at to. emitted s x c.args.low at to) c.in_ok-place.ensures.place c.in_ok-place.ensures.emits (c.in_ok-first.ensures s scope) c.close_loop.ensures in
    let body = emitted s x c.args.low (suc (place_of old)) (place_of old) in
    record {
      entry = c.in_ok-place.ensures.place;
      emits = subst (λ n. Emits old c.close_loop.new.self (op.Cycle n ∷ body.operations)) closed.body_is closed.emits;
    }

pub statement-returns-in-Cycle : goal.statement-returns-in-Cycle
statement-returns-in-Cycle t c =
    let old = c.args.emitter.now in
    let l = tree.statements_of (map tree.statement c.in-Cycle.list.value.items) in
    let v : tree.statement c.args.statement.now ≡ syntax.Cycle l = rw c.in-Cycle.is (view_cycle c.in-Cycle.list) in
    if_ok c.cycle.result
    (λ place h s scope.
    subst (λ x. Enters old c.cycle.new.emitter place (emitted s (erase.statement x) c.args.low (place_of old) c.args.next)) (sym v)
    ((rw (c.deref-in-Cycle-2.ensures.value, c.deref-in-Cycle.ensures) at h) c.args.next s scope))
    c.cycle.ensures

pub case-returns : goal.case-returns
case-returns t c =
    let old = c.args.emitter.now in
    let all = erase.arms (tree.arms_of (map tree.arm c.args.list.now)) in
    let e = erase.expression (tree.expression c.args.selector.now) in
    if_ok c.choose.result
    (λ place h s scope.
    let made = c.in_ok-arms.ensures s scope in
    let whole = emitted_arms s all c.args.low (place_of old) c.args.next in
    let d = coded_term s e c.args.low in
    then_entered old c.arms.new.emitter c.choose.new.emitter whole.operations place (λ at. with_calls d.calls (op.Case d.term (table_of whole.arms)) at)
    made.emits
    (subst (λ xs. Enters c.arms.new.emitter c.choose.new.emitter place (with_calls d.calls (op.Case d.term (table_of xs)) (place_of c.arms.new.emitter)))
    made.labels (h s scope)))
    c.choose.ensures

pub statement-returns-in-Case : goal.statement-returns-in-Case
statement-returns-in-Case t c =
    let old = c.args.emitter.now in
    let all = tree.arms_of (map tree.arm c.in-Case.arms.value.items) in
    let e = tree.expression c.in-Case.selector.value in
    let v : tree.statement c.args.statement.now ≡ syntax.Case e all = rw c.in-Case.is (view_case c.in-Case.selector c.in-Case.arms) in
    if_ok c.case.result
    (λ place h s scope.
    subst (λ x. Enters old c.case.new.emitter place (emitted s (erase.statement x) c.args.low (place_of old) c.args.next)) (sym v)
    ((rw (c.deref-in-Case-2.ensures.value, c.deref-in-Case.ensures, c.deref-in-Case-3.ensures) at h) s scope))
    c.case.ensures

pub statement-returns-in_ok-yes-in-IfElse : goal.statement-returns-in_ok-yes-in-IfElse
statement-returns-in_ok-yes-in-IfElse t c =
    let old = c.args.emitter.now in
    let e = tree.expression c.in-IfElse.condition.value in
    let x = tree.statement c.in-IfElse.branches.value.0 in
    let y = tree.statement c.in-IfElse.branches.value.1 in
    let v : tree.statement c.args.statement.now ≡ syntax.IfElse e x y =
    rw c.in-IfElse.is (view_if_else c.in-IfElse.condition c.in-IfElse.branches) in
    if_ok c.test-in-IfElse.result
    (λ place h s scope.
    let d = erase.expression e in
    let last = rw c.deref-in-IfElse.ensures at (c.in_ok-no-in-IfElse.ensures s scope) in
    let first = rw c.deref-in-IfElse-2.ensures at (c.in_ok-yes-in-IfElse.ensures s scope) in
    subst (λ z. Enters old c.test-in-IfElse.new.emitter place (emitted s (erase.statement z) c.args.low (place_of old) c.args.next)) (sym v)
    (if_entered s d (coded_term s d c.args.low) (erase.statement x) (erase.statement y) c.args.low c.args.next c.in_ok-no-in-IfElse.no
    c.in_ok-yes-in-IfElse.yes place old c.statement-in-IfElse.new.emitter c.statement-in-IfElse-2.new.emitter c.test-in-IfElse.new.emitter last first
    ((rw c.deref-in-IfElse-3.ensures at h) s scope)))
    c.test-in-IfElse.ensures

pub statement-returns-in_ok-yes-in-If : goal.statement-returns-in_ok-yes-in-If
statement-returns-in_ok-yes-in-If t c =
    let old = c.args.emitter.now in
    let e = tree.expression c.in-If.condition.value in
    let x = tree.statement c.in-If.then.value in
    let v : tree.statement c.args.statement.now ≡ syntax.If e x = rw c.in-If.is (view_if c.in-If.condition c.in-If.then) in
    if_ok c.test.result
    (λ place h s scope.
    let d = erase.expression e in
    let first = rw c.deref-in-If.ensures at (c.in_ok-yes-in-If.ensures s scope) in
    subst (λ z. Enters old c.test.new.emitter place (emitted s (erase.statement z) c.args.low (place_of old) c.args.next)) (sym v)
    (if_entered s d (coded_term s d c.args.low) (erase.statement x) a.Nothing c.args.low c.args.next c.args.next c.in_ok-yes-in-If.yes place old old
    c.statement.new.emitter c.test.new.emitter (nothing_entered old c.args.next) first ((rw c.deref-in-If-2.ensures at h) s scope)))
    c.test.ensures
