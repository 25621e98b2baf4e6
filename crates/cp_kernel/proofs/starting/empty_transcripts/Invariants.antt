use Rattle.std.proofs.Common.{◌≡◌, [], map}
use Rattle.std.specs.Prelude.{replicate}
use Rattle.cp_kernel.specs.KernelOf.{Bytes}
use Rattle.cp_kernel.proofs.starting.empty_transcripts.Given as goal

abbrev pub invariant-loop-i : goal.invariant-loop-i
invariant-loop-i l = map (λ (v : Bytes). v.items) l.all.items ≡ replicate l._i []
