use Rattle.std.proofs.Common.{◌≡◌, length}
use Rattle.cp_compile_symbols.proofs.SystemsMade.{SystemsSoFar}
use Rattle.cp_compile_symbols.proofs.layout.Layouts.systems.Given as goal

-- The first `number` system types have tables.
abbrev pub invariant-loop-number : goal.invariant-loop-number
invariant-loop-number l = record {
  count : length l.tables.items ≡ l.number;
  made : SystemsSoFar l.fn.names l.fn.types l.types l.fn.self.rows.items l.self.rows.items l.tables.items;
}
