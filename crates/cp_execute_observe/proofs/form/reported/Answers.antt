use Rattle.std.proofs.Common.{IfOk, subst, sym}
use Rattle.cp_execute_observe.specs.Forms.{IsOutcomeOf}
use Rattle.cp_execute_observe.proofs.form.reported.Goals as goal

pub returns-in-Transcript : goal.returns-in-Transcript
returns-in-Transcript c =
    subst (λ f. IfOk c.transcripts.result (λ bytes. IsOutcomeOf f c.args.machine.now c.args.verdict bytes.items)) (sym c.in-Transcript.is) c.transcripts.ensures

pub returns-in-Verdict : goal.returns-in-Verdict
returns-in-Verdict c =
    subst (λ f. IfOk c.report_with_reasons.result (λ bytes. IsOutcomeOf f c.args.machine.now c.args.verdict bytes.items)) (sym c.in-Verdict.is) c.report_with_reasons.ensures
