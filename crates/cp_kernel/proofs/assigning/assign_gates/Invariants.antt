use Rattle.std.proofs.Common.{◌≡◌, map, take}
use Rattle.cp_private.specs.States as states
use Rattle.cp_kernel.proofs.assigning.assign_gates.Given as goal

abbrev pub invariant-loop-i : goal.invariant-loop-i
invariant-loop-i l = map states.gate (take l.i l.gates) ≡ map states.gate (take l.i l.others)
