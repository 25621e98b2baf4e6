use Rattle.std.proofs.Common.{rules, ◌≡◌, ◌++◌}
use Rattle.cp_model_machine.specs.Machines.{transcript_of}
use Rattle.cp_rounds.specs.Views.{machine_of, output_of}
use Rattle.cp_outcome.proofs.Transcripts.{whole_transcript}
use Rattle.cp_outcome.proofs.transcript.transcript.Goals as goal

pub returns : goal.returns
returns c =
    let p = c.args.process in
    let m = c.args.machine.now in
    let is : c.extend_from_slice.new.self.items ≡ transcript_of (machine_of m).transcripts p ++ output_of (machine_of m) p = search rules in
    whole_transcript p m c.extend_from_slice.new.self.items is
