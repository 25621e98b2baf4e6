-- Written types, as the definitions see them.
use Rattle.std.proofs.Common.{◌≡◌, map, Box, Vec, Global, sym, ap, ◌∙◌, ℕ}
use Rattle.cp_model.specs.Syntax as s
use Rattle.cp_model.specs.View.{fields_layer, fields_of, type_expression, type_layer, types_of, variables}
use Rattle.cp_model.specs.declared.tree.Constant.{Constant}
use Rattle.cp_model.specs.declared.tree.Fields.{Fields}
use Rattle.cp_model.specs.declared.tree.TypeExpression.{TypeExpression}
use Rattle.cp_model.specs.declared.tree.TypeExpression.TheVariants as tree
use Rattle.cp_model.specs.declared.tree.TypeExpression.TheVariants.{rolls-Array, rolls-Record, rolls-Subrange}
use Rattle.cp_model.specs.declared.tree.TypeExpression.TheFolds.{fold-roll-TypeExpression, fold_out-Fields}

pub view_subrange : (bounds : Box (Constant × Constant) Global) → type_expression (tree.Subrange bounds) ≡ s.Subrange bounds.value.0 bounds.value.1
view_subrange bounds =
    ap type_expression (sym (rolls-Subrange bounds)) ∙ fold-roll-TypeExpression s.TypeExpression s.Variables type_layer fields_layer _

pub view_array : (at : ℕ) (indices : Box (Vec TypeExpression Global) Global) (element : Box TypeExpression Global)
    → type_expression (tree.Array at indices element) ≡ s.Array at (types_of (map type_expression indices.value.items)) (type_expression element.value)
view_array at indices element =
    ap type_expression (sym (rolls-Array at indices element)) ∙ fold-roll-TypeExpression s.TypeExpression s.Variables type_layer fields_layer _

pub view_record : (at : ℕ) (groups : Box (Vec Fields Global) Global)
    → type_expression (tree.Record at groups) ≡ s.Record at (fields_of (map variables groups.value.items))
view_record at groups =
    ap type_expression (sym (rolls-Record at groups)) ∙ fold-roll-TypeExpression s.TypeExpression s.Variables type_layer fields_layer _

pub view_fields : (f : Fields) → variables f ≡ record { names = f.names.items; of = type_expression f.of }
view_fields = fold_out-Fields s.TypeExpression s.Variables type_layer fields_layer
