use Rattle.std.proofs.Common.{◌∙◌, ap, sym}
use Rattle.cp_model.specs.Erase as erase
use Rattle.cp_model.specs.View as tree
use Rattle.cp_model_program.specs.CodedStatements.{is_result}
use Rattle.cp_compile_symbols.proofs.ValueTypes.{is_name}
use Rattle.cp_compile_lower.proofs.Storing.{part_no_result}
use Rattle.cp_compile_lower.proofs.translator.Translator.is_result.Goals as goal

pub returns-then-is_part : goal.returns-then-is_part
returns-then-is_part c = λ s scope.
    sym (part_no_result s (erase.designator (tree.designator c.args.designator.now)) (sym c.is_part.ensures ∙ c.if-is_part.true))

pub returns : goal.returns
returns c = λ s scope.
    (rw c.as_bytes.ensures at c.names_result.ensures) s scope
    ∙ ap (is_result s) (sym (is_name c.args.designator.now (sym c.is_part.ensures ∙ c.if-is_part.false)))
