use Rattle.std.proofs.Common.{◌≡◌, ◌-◌, ◌≤◌, length, drop}
use Rattle.cp_scan.specs.Pieces.{pieces, tokens_of}
use Rattle.cp_scan.proofs.scanning.all_tokens.Given as goal

abbrev pub invariant-loop-progress : goal.invariant-loop-progress
invariant-loop-progress l = record {
  place : l.progress.at ≤ length l.text;
  so_far : pieces (length l.text - l.progress.at) l.progress.at (drop l.progress.at l.text) l.progress.tokens.items ≡ tokens_of l.text;
}

abbrev pub decreases-loop-progress : goal.decreases-loop-progress
decreases-loop-progress l = length l.text - l.progress.at
