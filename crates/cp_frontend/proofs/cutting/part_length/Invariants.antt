use Rattle.std.proofs.Common.{◌≡◌, ◌++◌, drop, take}
use Rattle.cp_frontend.specs.Cutting.{after_separator, front_part}
use Rattle.cp_frontend.proofs.cutting.part_length.Given as goal

abbrev pub invariant-loop-at : goal.invariant-loop-at
invariant-loop-at l = record {
  front : take l.at l.input ++ front_part (drop l.at l.input) ≡ front_part l.input;
  rest : after_separator (drop l.at l.input) ≡ after_separator l.input;
}
