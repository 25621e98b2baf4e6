use Rattle.std.proofs.Common.{None, Some, sym}
use Rattle.cp_compile_symbols.proofs.Called.{component_called, component_known, component_tabled}
use Rattle.cp_compile_symbols.proofs.scope.Scope.component_callee.Goals as goal

pub returns-in-None-routine : goal.returns-in-None-routine
returns-in-None-routine c = λ s i.
    let x = c.args.component.now in
    let f = c.in-Some.of in
    let found = (rw c.in-Some.is at c.component.ensures) s.globals i.parameters i.variables i.routines i.system in
    component_called c.args.self.now s i x c.args.name.now f c.in-Some-system.system.now None (component_known c.args.self.now s i x (Some f) found)
    (sym c.in-Some-system.ensures) (rw c.in-None-routine.is at c.routine.ensures)

pub returns-in-Some-routine : goal.returns-in-Some-routine
returns-in-Some-routine c = λ s i.
    let x = c.args.component.now in
    let f = c.in-Some.of in
    let found = (rw c.in-Some.is at c.component.ensures) s.globals i.parameters i.variables i.routines i.system in
    component_called c.args.self.now s i x c.args.name.now f c.in-Some-system.system.now (Some c.in-Some-routine.routine)
    (component_known c.args.self.now s i x (Some f) found) (sym c.in-Some-system.ensures)
    (rw c.in-Some-routine.is at c.routine.ensures)

pub returns-in-None-system : goal.returns-in-None-system
returns-in-None-system c = λ s i.
    let f = c.in-Some.of in
    let found = (rw c.in-Some.is at c.component.ensures) s.globals i.parameters i.variables i.routines i.system in
    absurd
    (component_tabled c.args.self.now s i c.args.component.now f (component_known c.args.self.now s i c.args.component.now (Some f) found)
    (sym c.in-None-system.ensures))
