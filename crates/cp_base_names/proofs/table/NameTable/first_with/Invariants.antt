use Rattle.std.proofs.Common.{◌≡◌, map}
use Rattle.cp_model.specs.Names.{lookup}
use Rattle.cp_base_names.specs.Tables.{named}
use Rattle.cp_base_names.proofs.table.NameTable.first_with.Given as goal

-- the names so far are others
abbrev pub invariant-loop-found : goal.invariant-loop-found
invariant-loop-found g l =
    (goal.iterator-loop-found g).can_next l.found-iterator × (goal.iterator-loop-found g).is_finite l.found-iterator
    × (lookup l.name (map named l.found-iterator) ≡ lookup l.name l.self)
