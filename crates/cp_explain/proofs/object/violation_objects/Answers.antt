use Rattle.std.proofs.Common.{[], ◌++◌, ◌∙◌, ◌∷◌, ap}
use Rattle.cp_frontend.specs.declared.refusal.Refusal.TheVariants as refusal
use Rattle.cp_explain.proofs.First.{first_kept}
use Rattle.cp_explain.proofs.object.violation_objects.Goals as goal

pub loop-violation-init : goal.loop-violation-init
loop-violation-init c =
    let v = c.in_ok-of_rule.field-0 in
    (v, [], c.in_ok-push.ensures.items ∙ ap (λ xs. xs ++ v ∷ []) c.new-all.ensures.items, c.in_ok-of_rule.ensures)

pub loop-violation-preserved : goal.loop-violation-preserved
loop-violation-preserved c = first_kept c.args.text.now (refusal.Check c.args.first.rule c.args.first.at) c.loop-violation.all.items c.push-in-loop-violation.new.self.items (c.in_ok-of_rule-2.field-0 ∷ []) c.loop-violation.invariant c.in_ok-push-2.ensures.items
