use Rattle.std.proofs.Common.{◌≡◌, ◌+◌, ◌-◌, ◌≤◌, length, drop, not}
use Rattle.cp_model.specs.Characters.{is_quote}
use Rattle.cp_scan.specs.Pieces.{run}
use Rattle.cp_scan.proofs.bytes.length_before_quote.Given as goal

abbrev pub invariant-loop-n : goal.invariant-loop-n
invariant-loop-n l = record { within : l.n ≤ length l.text; so_far : l.n + run (λ b. not (is_quote b)) (drop l.n l.text) ≡ run (λ b. not (is_quote b)) l.text }

abbrev pub decreases-loop-n : goal.decreases-loop-n
decreases-loop-n l = length l.text - l.n
