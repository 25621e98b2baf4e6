use Rattle.std.proofs.Common.{◌≡◌, ◌++◌, drop}
use Rattle.cp_cli_terminal.specs.Painting.{with_marks}
use Rattle.cp_cli_terminal.proofs.painted.with_sequences.Given as goal

abbrev pub invariant-loop-at : goal.invariant-loop-at
invariant-loop-at l = record {
  so_far : l.painted.items ++ with_marks (drop l.at l.text) (drop l.at l.marks) ≡ with_marks l.text l.marks;
}
