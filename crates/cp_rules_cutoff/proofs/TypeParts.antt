-- When written types are after a place. The plain tree folds the lists in them into lists of its
-- own.
use Rattle.std.proofs.Common.{◌≡◌, ◌&&◌, ◌∷◌, ◌∙◌, [], ℕ, Bool, Box, Global, List, Vec, ap, map, nat_lt, refl}
use Rattle.cp_model.specs.Syntax as s
use Rattle.cp_model.specs.View.{fields_of, type_expression, types_of, variables}
use Rattle.cp_model.specs.declared.tree.Fields.{Fields}
use Rattle.cp_model.specs.declared.tree.TypeExpression.{TypeExpression}
use Rattle.cp_model.specs.declared.tree.TypeExpression.TheVariants as tree
use Rattle.cp_rules_cutoff.proofs.Grouping.{grouped}
use Rattle.cp_model.proofs.TypeViews.{view_array, view_record}
use Rattle.cp_rules_cutoff.specs.After.{all_after, fields_after, type_after, types_after, variables_after}

types_are : (p : ℕ) (ts : List s.TypeExpression) → types_after p (types_of ts) ≡ all_after (type_after p) ts
types_are p [] = refl
types_are p (t ∷ ts) = ap (λ (r : Bool). type_after p t && r) (types_are p ts)

fields_are : (p : ℕ) (gs : List s.Variables) → fields_after p (fields_of gs) ≡ all_after (variables_after p) gs
fields_are p [] = refl
fields_are p (g ∷ gs) = ap (λ (r : Bool). variables_after p g && r) (fields_are p gs)

pub array_after : (p at : ℕ) (is : Box (Vec TypeExpression Global) Global) (e : Box TypeExpression Global)
    → type_after p (type_expression (tree.Array at is e))
    ≡ (nat_lt p at && (all_after (type_after p) (map type_expression is.value.items) && type_after p (type_expression e.value)))
array_after p at is e =
    ap (type_after p) (view_array at is e)
    ∙ ap (λ (r : Bool). nat_lt p at && r && type_after p (type_expression e.value)) (types_are p (map type_expression is.value.items))
    ∙ grouped (nat_lt p at) (all_after (type_after p) (map type_expression is.value.items)) (type_after p (type_expression e.value))

pub record_after : (p at : ℕ) (gs : Box (Vec Fields Global) Global)
    → type_after p (type_expression (tree.Record at gs)) ≡ (nat_lt p at && all_after (variables_after p) (map variables gs.value.items))
record_after p at gs =
    ap (type_after p) (view_record at gs) ∙ ap (λ (r : Bool). nat_lt p at && r) (fields_are p (map variables gs.value.items))
