use Rattle.std.proofs.Common.{◌∙◌, None, ap, map, subst, sym}
use Rattle.cp_model.specs.Abstract as a
use Rattle.cp_model.specs.Calls.{callee}
use Rattle.cp_model.specs.Erase as erase
use Rattle.cp_model.specs.View as view
use Rattle.cp_model_program.specs.Scopes.{environment}
use Rattle.cp_compile_symbols.specs.Designators.{IsFirstPart}
use Rattle.cp_compile_symbols.specs.Scopes.{CalleeIs}
use Rattle.cp_compile_symbols.proofs.Called.{two_call_nothing}
use Rattle.cp_compile_symbols.proofs.Designating.{first_of_name}
use Rattle.cp_compile_symbols.proofs.scope.Scope.callee.Goals as goal

pub returns-in-Some-first_part : goal.returns-in-Some-first_part
returns-in-Some-first_part c = λ s i.
    let d = c.args.designator.now in
    let first = c.in-Some.first.now in
    let rest = c.in-Some.rest.now in
    let second = c.in-Some-first_part.field-0.0.now in
    let last = c.in-Some-first_part.field-0.1.now in
    let one : IsFirstPart d.selectors.items first rest = rw (c.deref.ensures.value, c.in-Some.is) at c.first_part.ensures in
    let two : IsFirstPart rest second last = rw c.in-Some-first_part.is at c.first_part-in-Some.ensures in
    let whole = first_of_name d first rest one ∙ two.same (erase.select (a.Plain d.root.name) (view.selector first)) in
    subst (CalleeIs c.args.self.now s None)
    (sym (ap (callee (environment s)) whole
    ∙ two_call_nothing (environment s) d.root.name (view.selector first) (view.selector second) (view.selectors_of (map view.selector last)) one.selects
    two.selects)) tt
