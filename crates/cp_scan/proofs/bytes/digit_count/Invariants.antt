use Rattle.std.proofs.Common.{◌≡◌, ◌+◌, ◌-◌, ◌≤◌, length, drop}
use Rattle.cp_model.specs.Characters.{is_digit}
use Rattle.cp_scan.specs.Pieces.{run}
use Rattle.cp_scan.proofs.bytes.digit_count.Given as goal

abbrev pub invariant-loop-n : goal.invariant-loop-n
invariant-loop-n l = record { within : l.n ≤ length l.text; so_far : l.n + run is_digit (drop l.n l.text) ≡ run is_digit l.text }

abbrev pub decreases-loop-n : goal.decreases-loop-n
decreases-loop-n l = length l.text - l.n
