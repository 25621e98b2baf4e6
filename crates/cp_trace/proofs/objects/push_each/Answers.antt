use Rattle.cp_trace.proofs.ObjectLines.{line_added, more_added}
use Rattle.cp_trace.proofs.objects.push_each.Goals as goal

pub loop-change-preserved : goal.loop-change-preserved
loop-change-preserved c =
    let before = c.loop-change.out.items in
    let after = c.extend_from_slice.new.self.items in
    let added = rw c.deref.ensures.value at c.in_ok-extend_from_slice.ensures.items in
    more_added c.args.out.now.items before after c.loop-change.invariant
    (line_added before after c.in_ok-line.field-0.items added c.in_ok-line.ensures.form)
