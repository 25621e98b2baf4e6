use Rattle.std.proofs.Common.{◌≤◌, List, drop, map}
use Rattle.cp_model.specs.Abstract.{Name}
use Rattle.cp_model.specs.Declarations.{Variable}
use Rattle.cp_compile_symbols.specs.Variables.{AreDeclared, declared_entry}
use Rattle.cp_compile_symbols.proofs.Counting.{PartlyNumbered}
use Rattle.cp_compile_symbols.proofs.types.Types.numbered_names.Given as goal

-- A name that isn't in the table yet is among the remaining ones.
abbrev pub invariant-loop-d : goal.invariant-loop-d
invariant-loop-d l = record {
  few_monitors : l.monitors ≤ l.d-index;
  few_processes : l.processes ≤ l.d-index;
  partly : (vs : List (Name × Variable)) → AreDeclared l.self (map declared_entry l.fn.list) vs
      → PartlyNumbered l.self vs (map declared_entry (drop l.d-index l.list)) l.monitors l.processes l.names;
}
