use Rattle.std.proofs.Common.{◌≡◌, ◌<◌, length, sym, subst}
use Rattle.std.specs.Prelude.{IfErr, IfOk}
use Rattle.cp_rounds.specs.Runs.{PartsAfter}
use Rattle.cp_rounds.specs.declared.parts.Parts.{Parts}
use Rattle.cp_rounds.proofs.run.fn.in_thread_scope.scope.Goals as goal

pub returns : goal.returns
returns g c =
    let config = c.captures.run.now.turns.config.now in
    let t = c.captures.run.now.turns.plan.turn.steps in
    let done = c.captures.run.now.turns.done in
    let n = length c.captures.run.now.cells.now in
    let held = g.H.Holder.holds c.captures.held in
    let parts = c.into_parts-parts.result in
    let r = c.with_workers-parts.result.1 in
    let after = c.with_workers-parts.result.0 in
    let taken : parts ≡ held = c.into_parts-parts.ensures.same in
    let out : g.H.Holder.holds c.of.result ≡ after = c.of.ensures.same in
    record {
      made = subst (λ (q : Parts). IfOk r (λ x. PartsAfter config t done n held q)) (sym out)
          (subst (λ (p : Parts). IfOk r (λ x. PartsAfter config t done n p after)) taken c.with_workers-parts.ensures.made);
      partly = subst (λ (q : Parts). IfErr r (λ m. (m < n) × PartsAfter config t done m held q)) (sym out)
          (subst (λ (p : Parts). IfErr r (λ m. (m < n) × PartsAfter config t done m p after)) taken c.with_workers-parts.ensures.partly);
      count = subst (λ (q : Parts). length q.privates.items ≡ length held.privates.items) (sym out)
          (subst (λ (p : Parts). length after.privates.items ≡ length p.privates.items) taken c.with_workers-parts.ensures.count);
    }
