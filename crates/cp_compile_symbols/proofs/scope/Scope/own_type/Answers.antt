use Rattle.std.proofs.Common.{◌∙◌, ap, subst, sym}
use Rattle.cp_model.specs.Abstract as a
use Rattle.cp_model.proofs.Results.{if_ok}
use Rattle.cp_law_typing.specs.StaticTypes.{own_value_type}
use Rattle.cp_model_program.specs.Scopes.{environment}
use Rattle.cp_compile_symbols.specs.Expressions.{SimpleIs}
use Rattle.cp_compile_symbols.proofs.ValueTypes.{is_name, part_typed}
use Rattle.cp_compile_symbols.proofs.scope.Scope.own_type.Goals as goal

pub returns-then-is_part : goal.returns-then-is_part
returns-then-is_part c = λ s i.
    let is = sym c.is_part.ensures ∙ c.if-is_part.true in
    subst (SimpleIs c.simple.result) (sym (part_typed (environment s) _ is)) (c.simple.ensures _ (c.place_type.ensures s i))

pub returns-else-is_part : goal.returns-else-is_part
returns-else-is_part c =
    let is = is_name c.args.designator.now (sym c.is_part.ensures ∙ c.if-is_part.false) in
    if_ok c.name_type.result
    (λ of typed s i.
    subst (λ d. SimpleIs of (own_value_type (environment s) d)) (ap a.Plain c.as_bytes.ensures ∙ sym is) (typed s i))
    c.name_type.ensures
