use Rattle.std.proofs.Common.{◌∙◌, ap, sym}
use Rattle.cp_model.specs.Erase as erase
use Rattle.cp_model.specs.View as view
use Rattle.cp_model_program.specs.Scopes.{type_name}
use Rattle.cp_compile_symbols.proofs.TypeNames.{array_has_no_name, array_is_element}
use Rattle.cp_compile_symbols.proofs.type_names.+type_name.Goals as goal

pub returns-in-empty : goal.returns-in-empty
returns-in-empty t c =
    rw c.deref-in-empty.ensures at c.type_name.ensures
    ∙ array_is_element c.in-Array.at c.in-Array.indices c.in-Array.element (rw (c.as_slice.ensures.value, c.deref.ensures) at c.in-empty.len_below)
    ∙ ap (λ t. type_name (erase.type_expression (view.type_expression t))) (sym c.in-Array.is)

pub returns-in-len1-up : goal.returns-in-len1-up
returns-in-len1-up t c =
    array_has_no_name c.in-Array.at c.in-Array.indices c.in-Array.element (rw (c.as_slice.ensures.value, c.deref.ensures) at c.in-len1-up.len_at_least)
    ∙ ap (λ t. type_name (erase.type_expression (view.type_expression t))) (sym c.in-Array.is)
