use Rattle.cp_trace.specs.Reporting.{Adds, AreObjects}
use Rattle.cp_trace.proofs.objects.push_objects.Given as goal

-- only objects were added
abbrev pub invariant-loop-changes : goal.invariant-loop-changes
invariant-loop-changes l = Adds AreObjects l.fn.out.items l.out.items
