use Rattle.std.proofs.Common.{◌∙◌, ap, sym}
use Rattle.cp_model.specs.Erase as erase
use Rattle.cp_model.specs.Expressions.{name_of}
use Rattle.cp_model.specs.View as tree
use Rattle.cp_compile_symbols.proofs.ValueTypes.{is_name, part_has_no_name}
use Rattle.cp_compile_lower.proofs.standard.lone_name.Goals as goal

pub returns-then-is_part : goal.returns-then-is_part
returns-then-is_part c = sym (part_has_no_name (erase.designator (tree.designator c.args.designator.now)) (sym c.is_part.ensures ∙ c.if-is_part.true))

pub returns : goal.returns
returns c = c.as_bytes.ensures ∙ sym (ap name_of (is_name c.args.designator.now (sym c.is_part.ensures ∙ c.if-is_part.false)))
