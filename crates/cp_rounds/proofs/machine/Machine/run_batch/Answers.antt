use Rattle.std.proofs.Common.{◌≡◌, ◌<◌, length, refl, subst}
use Rattle.std.specs.Prelude.{IfErr, IfOk}
use Rattle.cp_rounds.specs.Runs.{PartsAfter}
use Rattle.cp_rounds.specs.declared.parts.Parts.{Parts}
use Rattle.cp_rounds.proofs.machine.Machine.run_batch.Goals as goal

pub returns-in-Ok-clause-made : goal.returns-in-Ok-clause-made
returns-in-Ok-clause-made g c =
    let old = c.args.self.now in
    let t = c.args.plan.now.turn.steps in
    let n = c.args.rounds in
    let after = c.with_cells-parts.result.0 in
    let taken = c.replace-parts.ensures.value in
    record {
      made = subst (λ r. IfOk r (λ x. PartsAfter old.config t old.rounds n old.parts after)) c.in-Ok.is
          (subst (λ (p : Parts). IfOk c.with_cells-parts.result.1 (λ x. PartsAfter old.config t old.rounds n p after)) taken c.with_cells-parts.ensures.made);
      processes = subst (λ (p : Parts). length after.privates.items ≡ length p.privates.items) taken c.with_cells-parts.ensures.count;
      rounds = refl;
      text = record { config = refl; tables = refl };
    }

pub returns-in-Err-clause-partly : goal.returns-in-Err-clause-partly
returns-in-Err-clause-partly g c =
    let old = c.args.self.now in
    let t = c.args.plan.now.turn.steps in
    let n = c.args.rounds in
    let after = c.with_cells-parts.result.0 in
    let taken = c.replace-parts.ensures.value in
    let partly = subst (λ r. IfErr r (λ m. (m < n) × PartsAfter old.config t old.rounds m old.parts after)) c.in-Err.is
    (subst (λ (p : Parts). IfErr c.with_cells-parts.result.1 (λ m. (m < n) × PartsAfter old.config t old.rounds m p after)) taken c.with_cells-parts.ensures.partly) in (
      partly.0,
      record {
        made = partly.1;
        processes = subst (λ (p : Parts). length after.privates.items ≡ length p.privates.items) taken c.with_cells-parts.ensures.count;
        rounds = refl;
        text = record { config = refl; tables = refl };
      },
    )
