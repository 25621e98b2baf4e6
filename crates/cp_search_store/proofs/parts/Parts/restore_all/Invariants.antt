use Rattle.std.proofs.Common.{◌≡◌, length}
use Rattle.cp_search_store.specs.Stored.{AreNumberedBelow}
use Rattle.cp_search_store.proofs.parts.Parts.restore_all.Given as goal

abbrev pub invariant-loop-i : goal.invariant-loop-i
invariant-loop-i l = record {
  count : length l.numbers ≡ length l.privates.items;
  end : length l.numbers ≡ l.i-end;
  each : AreNumberedBelow l.self.privates.items l.numbers l.privates.items l.i;
}
