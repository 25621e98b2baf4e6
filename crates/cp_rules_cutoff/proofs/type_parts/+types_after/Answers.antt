use Rattle.std.proofs.Common.{arith}
use Rattle.cp_rules_cutoff.proofs.TypeParts.{array_after}
use Rattle.cp_rules_cutoff.proofs.type_parts.+types_after.Goals as goal

pub TypeExpressionPart::is_after-returns-then-is_after :
    goal.TypeExpressionPart::is_after-returns-then-is_after
TypeExpressionPart::is_after-returns-then-is_after t c =
    rw (c.in-Array.is, array_after c.args.place c.in-Array.at c.in-Array.indices c.in-Array.element) (grind (arith))
