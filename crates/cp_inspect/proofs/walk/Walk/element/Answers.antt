use Rattle.std.proofs.Common.{rules, ◌≡◌, ◌+◌, ◌++◌, ◌∷◌, [], of_z, to_z, w64, pos, ap, subst, ◌∙◌, arith}
use Rattle.std.specs.Prelude.{◌+ℤ◌, codes, take}
use Rattle.std.proofs.lemmas.Result.{on_ok_weaker}
use Rattle.cp_model.specs.Decimal.{decimal}
use Rattle.cp_model.specs.Integers.{count_between}
use Rattle.cp_inspect.specs.Sinks.{held_by, visit_into}
use Rattle.cp_inspect.specs.Walks.{Enters, cursor}
use Rattle.cp_inspect.proofs.Sinks.{held_kept}
use Rattle.cp_inspect.proofs.Going.{element_goes, no_element}
use Rattle.cp_inspect.proofs.walk.Walk.element.Goals as goal

pub returns-then-count_between-cursor : goal.returns-then-count_between-cursor
returns-then-count_between-cursor c =
    let count : c.count_between.result ≡ count_between c.args.low c.args.high = search rules in
    λ s.
    no_element c.args.tables.now (visit_into s c.args.walk_output.now) c.args.cursor c.args.self.now (held_by s c.args.self.now c.args.out.now.items) c.args.low c.args.high c.args.element c.requires
    (omega (arith, count, c.if-count_between-cursor.true))

pub returns : goal.returns
returns c =
    let k = c.args.cursor in
    let old = c.args.self.now in
    let mid = c.leave_rest.new.self in
    let count : c.count_between.result ≡ count_between c.args.low c.args.high = search rules in
    let index : to_z w64 (of_z w64 c.index_at.result) ≡ c.args.low +ℤ pos k.next = search rules in
    on_ok_weaker c.enter.result
    (λ E s.
    let tables = c.args.tables.now in
    let v = visit_into s c.args.walk_output.now in
    let new = c.enter.new.self in
    let out = c.args.out.now.items in
    let after = held_by s new c.enter.new.out.items in
    let kept = held_kept s old mid out (c.leave_rest.ensures.leaves ∙ c.name_element.ensures.leaves) in
    element_goes tables v k old mid new (held_by s old out) after c.args.low c.args.high c.args.element (subst (λ b. Enters tables v c.args.element mid new b after) kept (E s))
    (ap (λ p. p.items) c.leave_rest.ensures.path ∙ (c.in_ok-name_element.ensures.path ∙ ap (λ i. take k.path old.path.items ++ (codes "[" ++ (decimal i ++ codes "]"))) index))
    (c.in_ok-leave_rest.ensures.stack ∙ ap (λ s. s.items ++ cursor k.row (k.next + 1) k.path ∷ []) c.name_element.ensures.stack)
    (c.leave_rest.ensures.place ∙ c.name_element.ensures.place) c.requires
    (omega (arith, count, c.if-count_between-cursor.false)))
    c.enter.ensures
