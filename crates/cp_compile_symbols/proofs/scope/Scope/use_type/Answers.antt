use Rattle.std.proofs.Common.{Option, subst}
use Rattle.cp_model.specs.Calls.{callee}
use Rattle.cp_model.specs.Erase as erase
use Rattle.cp_model.specs.View as view
use Rattle.cp_model.proofs.Results.{if_ok}
use Rattle.cp_model_program.specs.Scopes.{environment}
use Rattle.cp_law_typing.specs.StaticTypes.{own_value_type}
use Rattle.cp_compile_symbols.specs.declared.scope.Callee.{Callee}
use Rattle.cp_compile_symbols.specs.Scopes.{CalleeIs}
use Rattle.cp_compile_symbols.proofs.ValueTypes.{nothing_called, user_answers}
use Rattle.cp_compile_symbols.proofs.scope.Scope.use_type.Goals as goal

pub returns-in-Some : goal.returns-in-Some
returns-in-Some c =
    let d = erase.designator (view.designator c.args.designator.now) in
    if_ok c.answer_type.result
    (λ of gives s i.
    let found = callee (environment s) d in
    user_answers c.args.self.now s c.in-Some.callee found of (own_value_type (environment s) d)
    (subst (λ (f : Option Callee). CalleeIs c.args.self.now s f found) c.in-Some.is (c.callee.ensures s i)) (λ f is. gives s f i is))
    c.answer_type.ensures

pub returns-in-None : goal.returns-in-None
returns-in-None c =
    let d = erase.designator (view.designator c.args.designator.now) in
    if_ok c.own_type.result
    (λ of typed s i.
    let found = callee (environment s) d in
    nothing_called c.args.self.now s found of (own_value_type (environment s) d)
    (subst (λ (f : Option Callee). CalleeIs c.args.self.now s f found) c.in-None.is (c.callee.ensures s i)) (typed s i))
    c.own_type.ensures
