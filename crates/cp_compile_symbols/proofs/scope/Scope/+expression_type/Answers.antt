use Rattle.std.proofs.Common.{◌∙◌, ap, subst, sym}
use Rattle.cp_model.specs.View as view
use Rattle.cp_model.proofs.Results.{if_ok}
use Rattle.cp_compile_symbols.specs.Expressions.{ValueIs}
use Rattle.cp_compile_symbols.proofs.ValueTypes.{first_argument}
use Rattle.cp_compile_symbols.proofs.scope.Scope.+expression_type.Goals as goal

pub returns-in_ok-expression_type-in-len1-up : goal.returns-in_ok-expression_type-in-len1-up
returns-in_ok-expression_type-in-len1-up t c =
    let first =
    first_argument c.in-Call.d c.in-Call.arguments c.as_slice.result.now c.first-item.result c.as_slice.ensures.value c.in-len1-up.len_at_least
    c.first-item.is in
    if_ok c.call_type.result
    (λ of gives s i.
    subst (ValueIs s of) (sym (ap view.expression c.in-Call.is ∙ first.1))
    (gives s (view.expression c.first-item.result) first.0 i (c.in_ok-expression_type-in-len1-up.ensures s i)))
    (rw c.deref-in-len1-up.ensures at c.call_type.ensures)
