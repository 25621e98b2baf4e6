use Rattle.std.proofs.Common.{◌≡◌, map}
use Rattle.std.specs.Prelude.{replicate}
use Rattle.cp_private.specs.States as states
use Rattle.cp_kernel.specs.KernelOf.{unset_gate}
use Rattle.cp_kernel.proofs.starting.unset_gates.Given as goal

abbrev pub invariant-loop-i : goal.invariant-loop-i
invariant-loop-i l = map states.gate l.all.items ≡ replicate l._i unset_gate
