use Rattle.std.proofs.Common.{◌≡◌, map, take}
use Rattle.cp_kernel.specs.KernelOf.{Bytes}
use Rattle.cp_kernel.proofs.copying.copy_transcripts.Given as goal

abbrev pub invariant-loop-transcript : goal.invariant-loop-transcript
invariant-loop-transcript l = map (λ (v : Bytes). v.items) l.all.items ≡ map (λ (v : Bytes). v.items) (take l.transcript-index l.transcripts)
