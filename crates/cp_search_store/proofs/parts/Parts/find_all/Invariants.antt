use Rattle.std.proofs.Common.{◌≡◌, length}
use Rattle.cp_search_store.specs.Stored.{AreNumberedBelow}
use Rattle.cp_search_store.proofs.parts.Parts.find_all.Given as goal

abbrev pub invariant-loop-private : goal.invariant-loop-private
invariant-loop-private l = record {
  count : length l.numbers.items ≡ l.private-index;
  each : AreNumberedBelow l.self.privates.items l.numbers.items l.privates l.private-index;
}
