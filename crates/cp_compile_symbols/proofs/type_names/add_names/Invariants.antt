use Rattle.std.proofs.Common.{◌≡◌, drop, map}
use Rattle.cp_model.specs.Abstract.{Name}
use Rattle.cp_model.specs.Erase as erase
use Rattle.cp_model.specs.Names.{lookup}
use Rattle.cp_compile_symbols.specs.TypeNames.{name_or, typed_among}
use Rattle.cp_compile_symbols.proofs.type_names.add_names.Given as goal

-- The names added so far and the remaining ones are all names.
abbrev pub invariant-loop-x : goal.invariant-loop-x
invariant-loop-x l =
    (x behind : Name) → name_or (lookup x l.table) (typed_among (map erase.name (drop l.x-index l.names)) l.of x behind)
    ≡ name_or (lookup x l.fn.table) (typed_among (map erase.name l.fn.names) l.of x behind)
