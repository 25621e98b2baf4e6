use Rattle.std.proofs.Common.{◌≡◌, ◌++◌, drop, take}
use Rattle.cp_frontend.specs.Cutting.{front_part}
use Rattle.cp_frontend.specs.Inputs.{misplaced_from}
use Rattle.cp_frontend.proofs.inputs.misplaced.Given as goal

abbrev pub invariant-loop-at : goal.invariant-loop-at
invariant-loop-at l = record {
  place : misplaced_from l.at (drop l.at l.input) ≡ misplaced_from 0 l.input;
  front : take l.at l.input ++ front_part (drop l.at l.input) ≡ front_part l.input;
}
