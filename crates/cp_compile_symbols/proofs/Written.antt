-- Written types, as the definitions see them.
use Rattle.std.proofs.Common.{◌≡◌, ◌++◌, ◌∷◌, ◌∙◌, ℕ, List, [], Box, Vec, Global, ap, map, refl, sym}
use Rattle.cp_model.specs.Abstract.{Name}
use Rattle.cp_model.specs.Erase as erase
use Rattle.cp_model.specs.View.{type_expression, types_of}
use Rattle.cp_model.specs.Types.{GlobalScope, Members, NoMembers, ResolvedType, resolved_type, with_members}
use Rattle.cp_model.specs.declared.tree.Fields.{Fields}
use Rattle.cp_model.specs.declared.tree.Identifier.{Identifier}
use Rattle.cp_model.specs.declared.tree.TypeExpression.{TypeExpression}
use Rattle.cp_model.specs.declared.tree.TypeExpression.TheVariants as tree
use Rattle.cp_model.proofs.TypeViews.{view_array, view_fields, view_record}
use Rattle.cp_compile_symbols.specs.declared.types.Types.{Types}
use Rattle.cp_compile_symbols.specs.Representing.{AreMembers, Represents, entries_of, fields_of, array_type_over, record_type, with_groups, type_from}

pub array_written : (g : GlobalScope) (at : ℕ) (indices : Box (Vec TypeExpression Global) Global) (element : Box TypeExpression Global)
    → array_type_over indices.value.items (type_from element.value g) g ≡ type_from (tree.Array at indices element) g
array_written g at indices element =
    each indices.value.items ∙ ap (λ t. resolved_type g (erase.type_expression t)) (sym (view_array at indices element))
  where
    each : (is : List TypeExpression)
        → array_type_over is (type_from element.value g) g
        ≡ resolved_type g (erase.arrays (erase.type_expressions (types_of (map type_expression is))) (erase.type_expression (type_expression element.value)))
    each [] = refl
    each (i ∷ is) = rw (each is) refl

pub groups_written : (g : GlobalScope) (groups : List Fields) → with_groups groups g NoMembers ≡ fields_of groups g
groups_written g [] = refl
groups_written g (f ∷ fs) = rw (groups_written g fs, view_fields f) refl

pub record_written : (g : GlobalScope) (at : ℕ) (groups : Box (Vec Fields Global) Global) → record_type groups.value.items g ≡ type_from (tree.Record at groups) g
record_written g at groups = ap (λ t. resolved_type g (erase.type_expression t)) (sym (view_record at groups))

-- Names of one type, before other members.
pub names_written : (types : Types) (xs : List Identifier) (n : ℕ) (t : ResolvedType) (rest : List (Name × ℕ)) (ms : Members) → Represents types n t
    → AreMembers types rest ms → AreMembers types (entries_of xs n ++ rest) (with_members (map erase.name xs) t ms)
names_written types [] n t rest ms s r = r
names_written types (x ∷ xs) n t rest ms s r = (refl, s, names_written types xs n t rest ms s r)
