use Rattle.std.proofs.Common.{◌≡◌, take}
use Rattle.cp_kernel.proofs.sameness.are_same_stages.Given as goal

abbrev pub invariant-loop-i : goal.invariant-loop-i
invariant-loop-i l = take l.i l.ones ≡ take l.i l.others
