-- Names are recorded with the names of their types, one after another.
use Rattle.std.proofs.Common.{◌≡◌, ◌∷◌, ◌∙◌, Bool, true, false, ℕ, List, [], Option, None, Some, Box, Vec, Global, ap, arith, if◌then◌else◌, length, map, refl, sym, ◌<◌, ◌≤◌}
use Rattle.std.specs.Borrow.{Bor}
use Rattle.std.specs.Str.{bytes_eq}
use Rattle.cp_model.specs.Abstract.{Group, Name}
use Rattle.cp_model.specs.Erase as erase
use Rattle.cp_model.specs.Names.{lookup}
use Rattle.cp_model.specs.View as view
use Rattle.cp_model.specs.declared.tree.Fields.{Fields}
use Rattle.cp_model.specs.declared.tree.TypeExpression.{TypeExpression}
use Rattle.cp_model.specs.declared.tree.TypeExpression.TheVariants as tree
use Rattle.cp_model.proofs.TypeViews.{view_array, view_record}
use Rattle.cp_model_program.specs.Scopes.{declared_type, is_among, type_name}
use Rattle.cp_compile_symbols.specs.Tables.{Behind, or_last}
use Rattle.cp_compile_symbols.specs.TypeNames.{NamesMore, name_or, typed_among}

-- ---- Tables

one_typed : (old : Option (Bor Name)) (same among : Bool) (of : Bor Name) (behind : Name)
    → name_or (or_last old same of) (if among then of.now else behind) ≡ name_or old (if (if same then true else among) then of.now else behind)
one_typed None true true of behind = refl
one_typed None true false of behind = refl
one_typed None false among of behind = refl
one_typed (Some n) same among of behind = refl

pub one_more : (old new : List (Name × Bor Name)) (y : Name) (of : Bor Name) (ys : List Name) (x behind : Name) → Behind y of old new
    → name_or (lookup x new) (typed_among ys of.now x behind) ≡ name_or (lookup x old) (typed_among (y ∷ ys) of.now x behind)
one_more old new y of ys x behind adds =
    ap (λ (o : Option (Bor Name)). name_or o (typed_among ys of.now x behind)) (adds x)
    ∙ one_typed (lookup x old) (bytes_eq x y) (is_among x ys) of behind

-- One group more, before the others.
pub group_more : (old new : List (Name × Bor Name)) (d : Group) (ds : List Group) (x : Name) → NamesMore old new (typed_among d.names (type_name d.type))
    → name_or (lookup x new) (declared_type x ds) ≡ name_or (lookup x old) (declared_type x (d ∷ ds))
group_more old new d ds x more = more x (declared_type x ds)

-- ---- Written types

pub array_has_no_name : (at : ℕ) (indices : Box (Vec TypeExpression Global) Global) (element : Box TypeExpression Global) → 1 ≤ length indices.value.items
    → [] ≡ type_name (erase.type_expression (view.type_expression (tree.Array at indices element)))
array_has_no_name at indices element some =
    go indices.value.items some ∙ ap (λ t. type_name (erase.type_expression t)) (sym (view_array at indices element))
  where
    go : (is : List TypeExpression) → 1 ≤ length is
        → [] ≡ type_name (erase.arrays (erase.type_expressions (view.types_of (map view.type_expression is))) (erase.type_expression (view.type_expression element.value)))
    go [] some = absurd (omega (arith, some))
    go (i ∷ is) some = refl

-- An array without index types is its element type.
pub array_is_element : (at : ℕ) (indices : Box (Vec TypeExpression Global) Global) (element : Box TypeExpression Global) → length indices.value.items < 1
    → type_name (erase.type_expression (view.type_expression element.value)) ≡ type_name (erase.type_expression (view.type_expression (tree.Array at indices element)))
array_is_element at indices element none =
    go indices.value.items none ∙ ap (λ t. type_name (erase.type_expression t)) (sym (view_array at indices element))
  where
    go : (is : List TypeExpression) → length is < 1
        → type_name (erase.type_expression (view.type_expression element.value))
        ≡ type_name (erase.arrays (erase.type_expressions (view.types_of (map view.type_expression is))) (erase.type_expression (view.type_expression element.value)))
    go [] none = refl
    go (i ∷ is) none = absurd (omega (arith, none))

pub record_has_no_name : (at : ℕ) (groups : Box (Vec Fields Global) Global) → [] ≡ type_name (erase.type_expression (view.type_expression (tree.Record at groups)))
record_has_no_name at groups = ap (λ t. type_name (erase.type_expression t)) (sym (view_record at groups))
