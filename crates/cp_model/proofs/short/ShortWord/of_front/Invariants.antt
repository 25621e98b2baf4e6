use Rattle.std.proofs.Common.{◌≡◌, length, take}
use Rattle.cp_model.proofs.short.ShortWord.of_front.Given as goal

-- the letters before this one are those of the front
abbrev pub invariant-loop-i : goal.invariant-loop-i
invariant-loop-i l = record {
  room : length l.letters ≡ 14;
  done : take l.i l.letters ≡ take l.i l.front;
}
