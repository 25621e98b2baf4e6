use Rattle.std.proofs.Common.{◌≡◌, ◌++◌, drop, map}
use Rattle.cp_compile_symbols.specs.Variables.{declared_entries, declared_entry}
use Rattle.cp_compile_symbols.proofs.variables.declare_each.Given as goal

-- The entries added so far and those of the remaining names are all entries.
abbrev pub invariant-loop-x : goal.invariant-loop-x
invariant-loop-x l =
    map declared_entry l.list.items ++ declared_entries (drop l.x-index l.names) l.by_reference l.of
    ≡ map declared_entry l.fn.list.items ++ declared_entries l.fn.names l.by_reference l.of
