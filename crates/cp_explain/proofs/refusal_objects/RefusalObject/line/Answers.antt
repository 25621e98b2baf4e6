use Rattle.std.proofs.lemmas.Result.{IfOk-weaker}
use Rattle.cp_explain.proofs.Lines.{refusal_line}
use Rattle.cp_explain.proofs.refusal_objects.RefusalObject.line.Goals as goal

pub returns-clause-value : goal.returns-clause-value
returns-clause-value c = IfOk-weaker c.line.result _ _ (λ page. refusal_line c.args.self.now page.items) c.line.ensures.value
