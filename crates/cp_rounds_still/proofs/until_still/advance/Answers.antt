use Rattle.std.proofs.Common.{Bool, arith, subst}
use Rattle.std.proofs.lemmas.Result.{err_from_is_err_and}
use Rattle.cp_rounds_still.specs.Stillness.{ReportsStill}
use Rattle.cp_rounds_still.proofs.Rounds.{is_after}
use Rattle.cp_rounds_still.proofs.until_still.advance.Goals as goal
use Rattle.cp_rounds_still.proofs.until_still.advance.Goals.{else-rounds-gt1-via-then-rounds-gt1+else-is_still, else-rounds-gt1-via-else-rounds-gt1}

pub returns-in_err-run-clause-partly : goal.returns-in_err-run-clause-partly
returns-in_err-run-clause-partly g c =
    let p = err_from_is_err_and c.from_residual.result c.from_residual.ensures.1 in
    let made = c.in_err-run.ensures in
    let partly = made.partly in
    rw (p.1, p.2) (partly.0, partly.1, is_after c.args.plan.now.turn.steps _ c.args.machine.now c.run.new.self partly.2 made.processes made.text)

pub returns-clause-made : goal.returns-clause-made
returns-clause-made g c =
    let new = c.run.new.self in
    let made = c.in_ok-run.ensures in (
      is_after c.args.plan.now.turn.steps c.args.rounds c.args.machine.now new made.done made.processes made.text,
      λ several.
          elim c.else-rounds-gt1.branch [
            | else-rounds-gt1-via-then-rounds-gt1+else-is_still w ↦ subst (λ (b : Bool). ReportsStill new b) w.if-is_still.false w.is_still.ensures
            | else-rounds-gt1-via-else-rounds-gt1 w ↦ let few = w.if-rounds-gt1.false in absurd (omega (arith, several, few))
          ],
    )
