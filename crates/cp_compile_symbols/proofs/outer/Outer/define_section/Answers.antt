use Rattle.cp_compile_symbols.proofs.outer.Outer.define_section.Goals as goal

pub returns-in-Constants : goal.returns-in-Constants
returns-in-Constants c = rw c.in-Constants.is (rw c.deref.ensures.value at c.define_constants.ensures)

pub returns-in-Types : goal.returns-in-Types
returns-in-Types c = rw c.in-Types.is (rw c.deref-in-Types.ensures.value at c.define_types.ensures)
