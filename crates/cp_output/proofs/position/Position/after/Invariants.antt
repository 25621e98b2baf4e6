use Rattle.std.proofs.Common.{◌≡◌, ◌+◌, ◌≤◌, drop, suc}
use Rattle.cp_output.specs.Positions.{column_from, line_feeds}
use Rattle.cp_output.proofs.position.Position.after.Given as goal

abbrev pub invariant-loop-byte : goal.invariant-loop-byte
invariant-loop-byte l =
    record {
      line : l.position.line + line_feeds (drop l.byte-index l.front) ≡ suc (line_feeds l.front);
      column : column_from l.position.column (drop l.byte-index l.front) ≡ column_from 1 l.front;
      line_bound : l.position.line ≤ suc l.byte-index;
      column_bound : l.position.column ≤ suc l.byte-index;
    }
