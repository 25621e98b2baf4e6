use Rattle.std.proofs.Common.{length}
use Rattle.cp_rounds_workers.proofs.wave.publish_all.Given as goal

abbrev pub decreases-publish : goal.decreases-publish
decreases-publish g l = length l.leases.items
