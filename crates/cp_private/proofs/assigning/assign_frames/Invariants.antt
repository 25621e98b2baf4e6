use Rattle.std.proofs.Common.{◌≡◌}
use Rattle.cp_private.specs.States.{frames_in}
use Rattle.cp_private.proofs.assigning.assign_frames.Given as goal

abbrev pub invariant-loop-i : goal.invariant-loop-i
invariant-loop-i l = frames_in l.i l.frames ≡ frames_in l.i l.others
