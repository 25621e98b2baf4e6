use Rattle.std.proofs.Common.{◌≡◌, length, map, take}
use Rattle.cp_model.specs.Characters.{lower}
use Rattle.cp_scan.proofs.words.lower_end.Given as goal

-- the letters before this one are in lower case
abbrev pub invariant-loop-i : goal.invariant-loop-i
invariant-loop-i l = record {
  room : length l.letters ≡ 16;
  done : take l.i l.letters ≡ map lower (take l.i l.text);
}
