use Rattle.std.proofs.lemmas.Result.{IfOk-weaker}
use Rattle.cp_explain.proofs.Lines.{accepted_line}
use Rattle.cp_explain.proofs.accepted_object.AcceptedObject.line.Goals as goal

pub returns-clause-value : goal.returns-clause-value
returns-clause-value c = IfOk-weaker c.line.result _ _ (λ page line. (c.args.self.now, accepted_line c.args.self.now page.items line)) c.line.ensures.value
