use Rattle.std.proofs.Common.{◌≡◌, length}
use Rattle.cp_rounds.specs.Replayed.{EachWoken}
use Rattle.cp_rounds.proofs.copies.woken_copies.Given as goal

abbrev pub invariant-loop-private : goal.invariant-loop-private
invariant-loop-private l = record {
  count : length l.copies.items ≡ l.private-index;
  each : EachWoken l.wakes l.privates l.copies.items;
}
