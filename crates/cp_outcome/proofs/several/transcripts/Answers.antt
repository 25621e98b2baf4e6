use Rattle.std.proofs.lemmas.Result.{IfOk-weaker}
use Rattle.cp_outcome.specs.Transcripts.{AreTranscriptsOf}
use Rattle.cp_outcome.proofs.Sections.{alone, several}
use Rattle.cp_outcome.proofs.several.transcripts.Goals as goal

pub returns-then-processes-eq1 : goal.returns-then-processes-eq1
returns-then-processes-eq1 c =
    let all = c.args.processes.now in
    let m = c.args.machine.now in
    IfOk-weaker c.transcript.result _ (λ bytes. AreTranscriptsOf all m bytes.items) (λ bytes is. alone all m bytes.items c.if-processes-eq1.true is) c.transcript.ensures

pub returns-else-processes-eq1 : goal.returns-else-processes-eq1
returns-else-processes-eq1 c =
    let all = c.args.processes.now in
    let m = c.args.machine.now in
    IfOk-weaker c.sections.result _ (λ bytes. AreTranscriptsOf all m bytes.items) (λ bytes are. several all m bytes.items c.if-processes-eq1.false are) c.sections.ensures
