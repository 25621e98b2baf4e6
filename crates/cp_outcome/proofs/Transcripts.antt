-- The two parts of a transcript that a machine holds are the transcript in its state.
use Rattle.std.proofs.Common.{◌≡◌, ◌-◌, ◌++◌, ℕ, List, [], Option, None, Some, ap, sym, ◌∙◌, arith}
use Rattle.cp_model_machine.specs.Machines.{transcript_of}
use Rattle.cp_model_machine.specs.PrivateStates.{PrivateState}
use Rattle.cp_rounds.specs.Views.{machine_of, output_of}
use Rattle.cp_rounds.specs.declared.machine.Machine.{Machine}
use Rattle.cp_rounds_handoff.proofs.Lists.{got_at}
use Rattle.cp_outcome.specs.Transcripts.{IsTranscriptOf}

pub whole_transcript : (p : ℕ) (m : Machine) (bytes : List ℕ) → bytes ≡ transcript_of (machine_of m).transcripts p ++ output_of (machine_of m) p → IsTranscriptOf p m bytes
whole_transcript p m bytes is setup s I first last =
    let count = I.part_count in
    let got = got_at (machine_of m).parts (p - 1) (Prim.omega (arith, first, last, count)) in
    let part = I.parts p got.0 first got.1 in
    let output : output_of (machine_of m) p ≡ got.0.output =
    ap (λ (o : Option PrivateState). elim o [ None ↦ [] | Some x ↦ x.output ]) got.1 in
    is ∙ (ap (λ (xs : List ℕ). transcript_of (machine_of m).transcripts p ++ xs) output ∙ sym part.part.transcript)
