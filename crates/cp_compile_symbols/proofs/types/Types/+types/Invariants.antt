use Rattle.std.proofs.Common.{ℕ, List, ◌≤◌, drop, length, map}
use Rattle.cp_model.specs.Abstract.{Name}
use Rattle.cp_compile_symbols.specs.Representing.{MakesIndexed, entry}
use Rattle.cp_compile_symbols.proofs.Groups.{GroupsAdded}
use Rattle.cp_compile_symbols.proofs.types.Types.+types.Given as goal

-- The array types made so far are those of the last index types.
abbrev pub invariant-arrays-loop-left : goal.invariant-arrays-loop-left
invariant-arrays-loop-left l = record {
  within : l.left ≤ length l.indices;
  made : MakesIndexed l.fn.names l.fn.self l.self (drop l.left l.indices) l.fn.element l.of;
}

abbrev pub decreases-arrays-loop-left : goal.decreases-arrays-loop-left
decreases-arrays-loop-left l = l.left

-- The fields added so far and those of the remaining groups are all fields.
abbrev pub invariant-fields-loop-group : goal.invariant-fields-loop-group
invariant-fields-loop-group l =
    (added : List (Name × ℕ)) × GroupsAdded l.fn.names l.fn.self l.self (map entry l.fn.fields.items) (map entry l.fields.items) added
    l.fn.groups (drop l.group-index l.groups)
