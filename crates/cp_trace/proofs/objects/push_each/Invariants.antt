use Rattle.cp_trace.specs.Reporting.{Adds, AreObjects}
use Rattle.cp_trace.proofs.objects.push_each.Given as goal

-- only objects were added
abbrev pub invariant-loop-change : goal.invariant-loop-change
invariant-loop-change l = Adds AreObjects l.fn.out.items l.out.items
