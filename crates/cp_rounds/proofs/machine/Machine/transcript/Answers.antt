use Rattle.std.proofs.Common.{◌≡◌, ◌∙◌, subst, sym}
use Rattle.cp_model_machine.specs.Machines.{transcript_of}
use Rattle.cp_rounds.specs.ProcessStates.{ShowsTranscript}
use Rattle.cp_rounds.specs.Views.{machine_of, output_of}
use Rattle.cp_rounds.proofs.Shown.{transcript_shown}
use Rattle.cp_rounds.proofs.machine.Machine.transcript.Goals as goal

pub returns : goal.returns
returns c =
    let m = c.args.self.now in
    record {
      kernel = c.transcript.ensures;
      output = c.output.ensures;
      state =
          subst (λ moved. ShowsTranscript m c.args.p moved c.output.result.now) (sym c.transcript.ensures)
          (subst (λ held. ShowsTranscript m c.args.p (transcript_of (machine_of m).transcripts c.args.p) held) (sym c.output.ensures) (transcript_shown m c.args.p));
    }
