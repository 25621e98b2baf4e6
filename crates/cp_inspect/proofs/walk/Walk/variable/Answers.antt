use Rattle.std.proofs.Common.{rules, ◌≡◌, [], refl, subst}
use Rattle.std.proofs.lemmas.Result.{on_ok_weaker}
use Rattle.cp_inspect.specs.Sinks.{held_by, visit_into}
use Rattle.cp_inspect.specs.Walks.{Visits}
use Rattle.cp_inspect.specs.declared.walk.Walk.{Walk}
use Rattle.cp_inspect.proofs.Sinks.{held_kept}
use Rattle.cp_inspect.proofs.Visiting.{visited}
use Rattle.cp_inspect.proofs.walk.Walk.variable.Goals as goal

pub returns : goal.returns
returns c =
    let tables = c.args.tables.now in
    let old = c.args.self.now in
    let start : Walk = record { stack = c.clear.new.self; path = c.extend_from_slice.new.self; at = old.at; leaves = old.leaves } in
    let none : start.stack.items ≡ [] = search rules in
    let named : start.path.items ≡ c.args.name.now = search rules in
    on_ok_weaker c.finish.result
    (λ F s.
    subst (λ b. Visits tables (visit_into s c.args.walk_output.now) c.args.name.now c.args.row old.at c.finish.new.self.at b (held_by s c.finish.new.self c.finish.new.out.items))
    (held_kept s old start c.args.out.now.items refl)
    (visited tables (visit_into s c.args.walk_output.now) c.args.name.now c.args.row old.at start c.enter.new.self c.finish.new.self (held_by s start c.args.out.now.items)
    (held_by s c.enter.new.self c.enter.new.out.items) (held_by s c.finish.new.self c.finish.new.out.items) none named refl (c.in_ok-enter.ensures s) (F s)))
    c.finish.ensures
