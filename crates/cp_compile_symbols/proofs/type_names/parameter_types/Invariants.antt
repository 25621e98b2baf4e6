use Rattle.std.proofs.Common.{◌≡◌, drop, map}
use Rattle.cp_model.specs.Abstract.{Name}
use Rattle.cp_model.specs.Erase as erase
use Rattle.cp_model.specs.Names.{lookup}
use Rattle.cp_model.specs.View as view
use Rattle.cp_model_program.specs.Scopes.{declared_type}
use Rattle.cp_compile_symbols.specs.TypeNames.{name_or}
use Rattle.cp_compile_symbols.proofs.type_names.parameter_types.Given as goal

-- The table and the remaining groups give the type names of all groups.
abbrev pub invariant-loop-group : goal.invariant-loop-group
invariant-loop-group l =
    (x : Name) → name_or (lookup x l.table) (declared_type x (map erase.parameter_group (map view.parameters (drop l.group-index l.groups))))
    ≡ declared_type x (map erase.parameter_group (map view.parameters l.fn.groups))
