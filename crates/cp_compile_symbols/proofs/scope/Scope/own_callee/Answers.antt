use Rattle.std.proofs.Common.{◌∙◌, None, Some, subst, sym}
use Rattle.cp_compile_symbols.specs.Scopes.{CalleeIs}
use Rattle.cp_compile_symbols.specs.Systems.{RoutineFound}
use Rattle.cp_compile_symbols.proofs.Called.{is_local_found, local_calls_nothing, own_called}
use Rattle.cp_compile_symbols.proofs.scope.Scope.own_callee.Goals as goal

pub returns-then-is_some : goal.returns-then-is_some
returns-then-is_some c = λ s i.
    let x = c.args.name.now in
    let here = is_local_found c.args.self.now.tables.now.types s x c.local.result (c.local.ensures s i) ∙ sym c.is_some.ensures ∙ c.if-is_some.true in
    subst (CalleeIs c.args.self.now s None) (sym (local_calls_nothing s x here)) tt

pub returns-in-None : goal.returns-in-None
returns-in-None c = λ s i.
    let x = c.args.name.now in
    let other = is_local_found c.args.self.now.tables.now.types s x c.local.result (c.local.ensures s i) ∙ sym c.is_some.ensures ∙ c.if-is_some.false in
    own_called c.args.self.now s i x None other (subst (λ o. RoutineFound c.args.self.now.system.now x o) c.in-None.is c.routine.ensures)

pub returns-in-Some : goal.returns-in-Some
returns-in-Some c = λ s i.
    let x = c.args.name.now in
    let other = is_local_found c.args.self.now.tables.now.types s x c.local.result (c.local.ensures s i) ∙ sym c.is_some.ensures ∙ c.if-is_some.false in
    own_called c.args.self.now s i x (Some c.in-Some.routine) other
    (subst (λ o. RoutineFound c.args.self.now.system.now x o) c.in-Some.is c.routine.ensures)
