use Rattle.std.proofs.Common.{◌≡◌, ◌+◌, drop}
use Rattle.cp_inspect.specs.Names.{names_of, number_from}
use Rattle.cp_inspect.proofs.component_table.number_of.Given as goal

abbrev pub invariant-loop-at : goal.invariant-loop-at
invariant-loop-at l = number_from (l.at + l.first) l.name (names_of (drop l.at l.list)) ≡ number_from l.first l.name (names_of l.list)
