use Rattle.std.proofs.Common.{List, drop, map}
use Rattle.cp_compile_symbols.specs.Variables.{AreDeclared, Entry, declared_entry, with_declared_groups}
use Rattle.cp_compile_symbols.proofs.Groups.{Added}
use Rattle.cp_compile_symbols.proofs.types.Types.declare_variables.Given as goal

-- The entries added so far and those of the remaining groups are all entries.
abbrev pub invariant-loop-group : goal.invariant-loop-group
invariant-loop-group l =
    (added : List Entry) × Added AreDeclared with_declared_groups l.fn.names l.fn.self l.self (map declared_entry l.fn.list.items)
    (map declared_entry l.list.items) added l.fn.groups (drop l.group-index l.groups)
