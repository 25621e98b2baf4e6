use Rattle.std.proofs.Common.{◌≡◌, ◌∷◌, ◌++◌, [], ap, sym, ◌∙◌}
use Rattle.cp_rules.proofs.Judging.{ends, ends_last}
use Rattle.cp_rules.proofs.checker.Checker.arrays.Goals as goal

pub loop-index-preserved : goal.loop-index-preserved
loop-index-preserved c =
    let at = c.args.at in
    let before = c.loop-index in
    let items : before.indices.items ≡ c.pop.new.self.items ++ c.in-Some.index ∷ [] = c.in-Some.ensures.items in
    ends_last before.self c.array.new.self at c.pop.new.self.items c.in-Some.index before.of c.in_ok-of.of c.in_ok-of.ensures
    ∙ sym (ap (λ is. ends before.self at is before.of) items) ∙ before.invariant
