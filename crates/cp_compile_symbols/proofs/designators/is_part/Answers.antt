use Rattle.std.proofs.Common.{◌∙◌}
use Rattle.cp_compile_symbols.proofs.Designating.{part_if_selected}
use Rattle.cp_compile_symbols.proofs.designators.is_part.Goals as goal

pub returns : goal.returns
returns c = c.is_some.ensures ∙ part_if_selected c.args.designator.now c.first_part.result (rw c.deref.ensures.value at c.first_part.ensures)
