-- The members that the variables of a component make.
use Rattle.std.proofs.Common.{◌≡◌, ◌∷◌, List, [], false, ap, map, refl}
use Rattle.cp_model.specs.Abstract.{Name}
use Rattle.cp_model.specs.Declarations.{Variable, declarations, declared_group, members_from}
use Rattle.cp_model.specs.Erase as erase
use Rattle.cp_model.specs.View as view
use Rattle.cp_model.specs.Types.{GlobalScope, Members, NoMembers, ResolvedType, with_members}
use Rattle.cp_model.specs.declared.tree.Fields.{Fields}
use Rattle.cp_model.proofs.TypeViews.{view_fields}
use Rattle.cp_compile_symbols.specs.Representing.{with_groups, type_from}

group_first : (t : ResolvedType) (xs : List Name) (vs : List (Name × Variable)) (ms : Members)
    → members_from (declared_group false t xs vs) ms ≡ with_members xs t (members_from vs ms)
group_first t [] vs ms = refl
group_first t (x ∷ xs) vs ms = rw (group_first t xs vs ms) refl

pub variables_are : (g : GlobalScope) (fs : List Fields)
    → with_groups fs g NoMembers ≡ members_from (declarations g (map erase.variable_group (map view.variables fs))) NoMembers
variables_are g [] = refl
variables_are g (f ∷ fs) =
    rw (view_fields f, group_first (type_from f.of g) (map erase.name f.names.items) (declarations g (map erase.variable_group (map view.variables fs))) NoMembers)
    (ap (with_members (map erase.name f.names.items) (type_from f.of g)) (variables_are g fs))
