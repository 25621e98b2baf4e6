use Rattle.std.proofs.Common.{◌≡◌, ◌+◌, ◌∷◌, ◌∙◌, List, ap, drop, map, refl, subst, sym}
use Rattle.std.proofs.lemmas.List.{at_drop_more, drop_all}
use Rattle.cp_model.specs.Syntax as syntax
use Rattle.cp_model.specs.View as view
use Rattle.cp_model.specs.declared.tree.Operation.{Operation}
use Rattle.cp_compile_symbols.specs.Expressions.{ValueIs}
use Rattle.cp_compile_symbols.proofs.ValueTypes.{PartlyChained, one_operator}
use Rattle.cp_compile_symbols.proofs.expressions.chain_type.Goals as goal

pub loop-operation-init : goal.loop-operation-init
loop-operation-init c = λ s e typed. record { so_far = e; typed = typed; rest = refl }

pub loop-operation-preserved : goal.loop-operation-preserved
loop-operation-preserved c = λ s e typed.
    let all = c.args.rest.now in
    let i = c.loop-operation.operation-index in
    let o = c.operation-item.result in
    let step : drop i all ≡ o ∷ drop (i + 1) all =
    at_drop_more (λ (os : List Operation). os) all i o c.loop-operation-test.true ∙ ap (λ (p : Operation). p ∷ drop (i + 1) all) (sym c.operation-item.is) in
    let whole = syntax.chain_of e (map view.operation all) in
    one_operator s c.loop-operation.of _ o (drop (i + 1) all) whole c.in_ok-of.ensures
    (subst (λ (os : List Operation). PartlyChained s c.loop-operation.of os whole) step (c.loop-operation.invariant s e typed))

pub returns : goal.returns
returns c = λ s e typed.
    let all = c.args.rest.now in
    let some =
    subst (λ (os : List Operation). PartlyChained s c.loop-operation.of os (syntax.chain_of e (map view.operation all)))
    (drop_all c.loop-operation.operation-index all c.loop-operation-test.false) (c.loop-operation.invariant s e typed) in
    subst (ValueIs s c.loop-operation.of) some.rest some.typed
