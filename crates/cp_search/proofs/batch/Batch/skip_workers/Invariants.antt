use Rattle.std.proofs.Common.{◌≡◌}
use Rattle.cp_search.proofs.batch.Batch.skip_workers.Given as goal

abbrev pub invariant-loop-worker : goal.invariant-loop-worker
invariant-loop-worker l = l.self.found ≡ l.fn.self.found
