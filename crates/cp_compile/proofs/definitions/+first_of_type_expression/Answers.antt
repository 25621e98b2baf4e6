use Rattle.std.proofs.Common.{◌∙◌, ap, sym}
use Rattle.cp_model.specs.Erase as erase
use Rattle.cp_model.specs.View as tree
use Rattle.cp_model_program.specs.Compile.{first_of_type}
use Rattle.cp_compile.proofs.TextsCompiled.{array_has_no_units, array_is_element}
use Rattle.cp_compile.proofs.definitions.+first_of_type_expression.Goals as goal

pub returns-in-empty : goal.returns-in-empty
returns-in-empty t c =
    c.first_of_type_expression.ensures
    ∙ ap (λ e. first_of_type c.args.firsts.now (erase.type_expression (tree.type_expression e))) c.deref-in-empty.ensures
    ∙ array_is_element c.args.firsts.now c.in-Array.at c.in-Array.indices c.in-Array.element (rw (c.as_slice.ensures.value, c.deref.ensures) at c.in-empty.len_below)
    ∙ ap (λ e. first_of_type c.args.firsts.now (erase.type_expression (tree.type_expression e))) (sym c.in-Array.is)

pub returns-in-len1-up : goal.returns-in-len1-up
returns-in-len1-up t c =
    array_has_no_units c.args.firsts.now c.in-Array.at c.in-Array.indices c.in-Array.element (rw (c.as_slice.ensures.value, c.deref.ensures) at c.in-len1-up.len_at_least)
    ∙ ap (λ e. first_of_type c.args.firsts.now (erase.type_expression (tree.type_expression e))) (sym c.in-Array.is)
