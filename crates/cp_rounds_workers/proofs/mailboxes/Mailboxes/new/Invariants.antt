use Rattle.std.proofs.Common.{◌≡◌, length}
use Rattle.cp_rounds_workers.proofs.mailboxes.Mailboxes.new.Given as goal

abbrev pub invariant-loop-place : goal.invariant-loop-place
invariant-loop-place g l = record { count : length l.places.items ≡ l._place }
