use Rattle.std.proofs.Common.{◌≡◌, map, take}
use Rattle.cp_private.specs.States as states
use Rattle.cp_kernel.proofs.copying.copy_gates.Given as goal

abbrev pub invariant-loop-gate : goal.invariant-loop-gate
invariant-loop-gate l = map states.gate l.all.items ≡ map states.gate (take l.gate-index l.gates)
