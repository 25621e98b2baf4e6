use Rattle.std.proofs.Common.{◌≡◌, length}
use Rattle.cp_search_store.specs.Stored.{AreNumberedBelow, Extends}
use Rattle.cp_search_store.proofs.parts.Parts.number_all.Given as goal

abbrev pub invariant-loop-private : goal.invariant-loop-private
invariant-loop-private l = record {
  grows : Extends l.fn.self.privates.items l.self.privates.items;
  count : length l.numbers.items ≡ l.private-index;
  each : AreNumberedBelow l.self.privates.items l.numbers.items l.privates l.private-index;
}
