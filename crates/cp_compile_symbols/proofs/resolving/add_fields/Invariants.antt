use Rattle.std.proofs.Common.{◌≡◌, ◌++◌, drop, map}
use Rattle.cp_compile_symbols.specs.Representing.{entries_of, entry}
use Rattle.cp_compile_symbols.proofs.resolving.add_fields.Given as goal

-- The fields added so far and those of the remaining names are all fields.
abbrev pub invariant-loop-x : goal.invariant-loop-x
invariant-loop-x l = map entry l.fields.items ++ entries_of (drop l.x-index l.names) l.of ≡ map entry l.fn.fields.items ++ entries_of l.fn.names l.of
