use Rattle.std.proofs.Common.{[], ◌∷◌}
use Rattle.cp_explain.proofs.First.{first_kept}
use Rattle.cp_explain.proofs.object.push_later.Goals as goal

pub loop-mistake-preserved : goal.loop-mistake-preserved
loop-mistake-preserved c = λ e first. first_kept c.args.text.now e c.loop-mistake.all.items c.push.new.self.items (c.in_ok-of.field-0 ∷ []) (c.loop-mistake.invariant e first) c.in_ok-push.ensures.items
