use Rattle.std.proofs.Common.{◌≡◌, drop}
use Rattle.cp_frontend.specs.Cutting.{judged_from}
use Rattle.cp_frontend.proofs.cutting.check_input.Given as goal

abbrev pub invariant-loop-at : goal.invariant-loop-at
invariant-loop-at l = judged_from l.at (drop l.at l.input) ≡ judged_from 0 l.input
