use Rattle.std.proofs.Common.{ℕ, List, drop, map}
use Rattle.cp_model.specs.Abstract.{Name}
use Rattle.cp_compile_symbols.specs.Representing.{entry}
use Rattle.cp_compile_symbols.proofs.Groups.{ParametersAdded}
use Rattle.cp_compile_symbols.proofs.types.Types.add_parameters.Given as goal

-- The members added so far and those of the remaining groups are all members.
abbrev pub invariant-loop-group : goal.invariant-loop-group
invariant-loop-group l =
    (added : List (Name × ℕ)) × ParametersAdded l.fn.names l.fn.self l.self (map entry l.fn.members.items) (map entry l.members.items) added
    l.fn.groups (drop l.group-index l.groups)
