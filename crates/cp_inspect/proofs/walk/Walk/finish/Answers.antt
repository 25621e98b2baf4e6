use Rattle.std.proofs.Common.{rules, ◌≡◌, ◌++◌, ◌∷◌, [], refl}
use Rattle.cp_inspect.specs.Sinks.{held_by, visit_into}
use Rattle.cp_inspect.proofs.Sinks.{held_kept}
use Rattle.cp_inspect.proofs.Visiting.{nothing_left, went_on}
use Rattle.cp_inspect.proofs.walk.Walk.finish.Goals as goal

pub loop-visit-preserved : goal.loop-visit-preserved
loop-visit-preserved c =
    λ s g rest scope represents.
    let w = c.loop-visit.self in
    let split : w.stack.items ≡ c.pop.new.self.items ++ c.in-Some.cursor ∷ [] = search rules in
    let mid = record w { stack = c.pop.new.self } in
    let out = c.loop-visit.out.items in
    went_on g (visit_into s c.args.walk_output.now) c.args.tables.now c.in-Some.cursor w mid c.go_on.new.self (held_by s w out) (held_by s mid out) (held_by s c.go_on.new.self c.go_on.new.out.items)
    _ _ split refl refl (held_kept s w mid out refl) scope (c.loop-visit.invariant s g rest scope represents) (c.in_ok-go_on.ensures s)

pub returns-in_default : goal.returns-in_default
returns-in_default c =
    λ s g rest scope represents.
    let w = c.loop-visit.self in
    let new = record w { stack = c.pop.new.self } in
    let out = c.loop-visit.out.items in
    let none : w.stack.items ≡ [] = search rules in
    nothing_left g (visit_into s c.args.walk_output.now) c.args.tables.now.types w new (held_by s w out) (held_by s new out) _ _ none refl (held_kept s w new out refl)
    (c.loop-visit.invariant s g rest scope represents)
