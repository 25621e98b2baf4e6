use Rattle.std.proofs.Common.{rules, ◌≡◌, ◌++◌, ◌∷◌, [], ◌∙◌}
use Rattle.std.proofs.lemmas.Result.{on_ok_weaker}
use Rattle.cp_model_machine.specs.KernelSteps.{stage_of}
use Rattle.cp_model_machine.specs.Machines.{transcript_of}
use Rattle.cp_model_machine.specs.Reports.{stage_text, transcript_line}
use Rattle.cp_rounds.specs.ProcessStates.{activity_at}
use Rattle.cp_rounds.specs.Views.{output_of}
use Rattle.cp_report.specs.Lines.{title}
use Rattle.cp_report.specs.Subjects.{machine_in}
use Rattle.cp_report.proofs.ProcessesReported.{front_reported}
use Rattle.cp_report.proofs.subject.Subject.push_front.Goals as goal

pub returns : goal.returns
returns c =
    on_ok_weaker c.push_transcript_line.result
    (λ reported setup of.
    let m = machine_in c.args.self in
    let p = c.args.number in
    let x = c.args.name.now in
    let out = c.args.out.now.items in
    let titled : c.push_title.new.out.items ≡ out ++ title p x = search rules in
    let ended : c.extend_from_slice.new.self.items ≡ c.push_status.new.out.items ++ 10 ∷ [] = search rules in
    let stood = c.in_ok-push_status.ensures setup of in
    front_reported p x (stage_text setup m.program (stage_of m.kernel.stages p) (activity_at m p)) (transcript_of m.transcripts p ++ output_of m p) out c.push_title.new.out.items
    c.push_status.new.out.items c.extend_from_slice.new.self.items c.push_transcript_line.new.out.items titled stood ended
    (reported ∙ (λ i. c.extend_from_slice.new.self.items ++ transcript_line (c.transcript.ensures.kernel i ++ c.transcript.ensures.output i))))
    c.push_transcript_line.ensures
