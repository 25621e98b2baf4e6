use Rattle.cp_compile_symbols.proofs.outer.Outer.define_as.Goals as goal

pub returns-in-Written : goal.returns-in-Written
returns-in-Written c = rw c.in-Written.is c.define_type.ensures

pub returns-in-Enumeration : goal.returns-in-Enumeration
returns-in-Enumeration c = rw c.in-Enumeration.is (rw c.deref.ensures.value at c.define_enumeration.ensures)

pub returns-in-System : goal.returns-in-System
returns-in-System c = rw c.in-System.is c.define_system.ensures
