use Rattle.std.proofs.Common.{◌≡◌, map, take}
use Rattle.cp_private.specs.States as states
use Rattle.cp_kernel.proofs.sameness.are_same_gates.Given as goal

abbrev pub invariant-loop-i : goal.invariant-loop-i
invariant-loop-i l = map states.gate (take l.i l.ones) ≡ map states.gate (take l.i l.others)
