use Rattle.cp_frontend.specs.declared.refusal.Refusal.TheVariants as refusal
use Rattle.cp_explain.specs.Objects.{FirstIs}
use Rattle.cp_explain.proofs.object.violation_objects.Given as goal

abbrev pub invariant-loop-violation : goal.invariant-loop-violation
invariant-loop-violation l = FirstIs l.text (refusal.Check l.fn.first.rule l.fn.first.at) l.all.items
