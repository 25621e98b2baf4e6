use Rattle.std.proofs.Common.{◌≤◌, List, drop, map}
use Rattle.cp_model.specs.Abstract.{Name}
use Rattle.cp_model.specs.Declarations.{Variable}
use Rattle.cp_compile_symbols.specs.Variables.{AreDeclared, declared_entry}
use Rattle.cp_compile_symbols.proofs.Counting.{PartlyCounted}
use Rattle.cp_compile_symbols.proofs.types.Types.processes_before.Given as goal

-- The name isn't among the variables counted so far.
abbrev pub invariant-loop-d : goal.invariant-loop-d
invariant-loop-d l = record {
  few : l.count ≤ l.d-index;
  partly : (vs : List (Name × Variable)) → AreDeclared l.self (map declared_entry l.fn.list) vs
      → PartlyCounted l.self vs (map declared_entry (drop l.d-index l.list)) l.name l.count;
}
