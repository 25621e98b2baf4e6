use Rattle.cp_model.specs.Types.{standard_scope}
use Rattle.cp_compile_symbols.proofs.outer.Outer.of_tree.Goals as goal

pub returns : goal.returns
returns c = (rw c.deref.ensures.value at c.in_ok-define_sections.ensures) standard_scope c.in_ok-outer.ensures
