use Rattle.std.proofs.Common.{◌∙◌, ap, Option, subst, sym}
use Rattle.cp_model.specs.Calls.{callee}
use Rattle.cp_model.specs.Erase as erase
use Rattle.cp_model.specs.View as view
use Rattle.cp_model_program.specs.Scopes.{environment}
use Rattle.cp_model.specs.Expressions.{name_of}
use Rattle.cp_model.proofs.Results.{if_ok}
use Rattle.cp_law_typing.specs.StaticTypes.{expression_type, standard_type}
use Rattle.cp_compile_symbols.specs.declared.scope.Callee.{Callee}
use Rattle.cp_compile_symbols.specs.Expressions.{SimpleIs}
use Rattle.cp_compile_symbols.specs.Scopes.{CalleeIs}
use Rattle.cp_compile_symbols.proofs.ValueTypes.{is_name, nothing_called, part_has_no_name, user_answers}
use Rattle.cp_compile_symbols.proofs.scope.Scope.call_type.Goals as goal

pub returns-in-Some : goal.returns-in-Some
returns-in-Some c =
    let d = erase.designator (view.designator c.args.designator.now) in
    if_ok c.answer_type.result
    (λ of gives s e es i typed.
    let found = callee (environment s) d in
    user_answers c.args.self.now s c.in-Some.callee found of (standard_type (name_of d) (expression_type (environment s) (erase.expression e)))
    (subst (λ (f : Option Callee). CalleeIs c.args.self.now s f found) c.in-Some.is (c.callee.ensures s i)) (λ f is. gives s f i is))
    c.answer_type.ensures

pub returns-then-is_part : goal.returns-then-is_part
returns-then-is_part c =
    let d = erase.designator (view.designator c.args.designator.now) in
    if_ok c.standard_type.result
    (λ of gives s e es i typed.
    let found = callee (environment s) d in
    let t = expression_type (environment s) (erase.expression e) in
    let none = part_has_no_name d (sym c.is_part.ensures ∙ c.if-is_part.true) in
    nothing_called c.args.self.now s found of (standard_type (name_of d) t)
    (subst (λ (f : Option Callee). CalleeIs c.args.self.now s f found) c.in-None.is (c.callee.ensures s i))
    (subst (λ x. SimpleIs of (standard_type x t)) (sym none) (gives t typed)))
    c.standard_type.ensures

pub returns-else-is_part : goal.returns-else-is_part
returns-else-is_part c =
    let d = erase.designator (view.designator c.args.designator.now) in
    if_ok c.standard_type-else-is_part.result
    (λ of gives s e es i typed.
    let found = callee (environment s) d in
    let t = expression_type (environment s) (erase.expression e) in
    let is = is_name c.args.designator.now (sym c.is_part.ensures ∙ c.if-is_part.false) in
    nothing_called c.args.self.now s found of (standard_type (name_of d) t)
    (subst (λ (f : Option Callee). CalleeIs c.args.self.now s f found) c.in-None.is (c.callee.ensures s i))
    (subst (λ x. SimpleIs of (standard_type x t)) (c.as_bytes.ensures ∙ sym (ap name_of is)) (gives t typed)))
    c.standard_type-else-is_part.ensures
