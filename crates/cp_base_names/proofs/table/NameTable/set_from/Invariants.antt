use Rattle.std.proofs.Common.{◌≡◌, length, map}
use Rattle.cp_base_names.specs.Tables.{named, with_values_from}
use Rattle.cp_base_names.proofs.table.NameTable.set_from.Given as goal

-- the rest of the names leads to the same end as all of them
abbrev pub invariant-loop-number : goal.invariant-loop-number
invariant-loop-number g l = record {
  count : length l.self-inside.entries.entries ≡ l.number-end;
  rest : with_values_from l.number l.value (map named l.self-inside.entries.entries) ≡ with_values_from l.fn.from l.fn.value l.fn.self;
}
