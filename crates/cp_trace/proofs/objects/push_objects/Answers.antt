use Rattle.cp_trace.proofs.ObjectLines.{more_added}
use Rattle.cp_trace.proofs.objects.push_objects.Goals as goal

pub loop-changes-preserved : goal.loop-changes-preserved
loop-changes-preserved c =
    more_added c.args.out.now.items c.loop-changes.out.items c.push_each.new.out.items c.loop-changes.invariant c.in_ok-push_each.ensures
