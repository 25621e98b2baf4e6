use Rattle.std.proofs.Common.{◌≤◌, drop, length}
use Rattle.cp_compile_symbols.specs.Outer.{Defines, with_values}
use Rattle.cp_compile_symbols.specs.Representing.{base_of}
use Rattle.cp_compile_symbols.proofs.outer.Outer.add_values.Given as goal

-- The values from this one on are defined.
abbrev pub invariant-loop-left : goal.invariant-loop-left
invariant-loop-left l = record {
  within : l.left ≤ length l.values;
  defines : Defines l.fn.self l.self (with_values (base_of l.base) l.left (drop l.left l.values));
}

abbrev pub decreases-loop-left : goal.decreases-loop-left
decreases-loop-left l = l.left
