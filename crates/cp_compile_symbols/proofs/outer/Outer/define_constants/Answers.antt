use Rattle.std.proofs.Common.{◌≡◌, ◌∷◌, ◌+◌, ◌∙◌, List, ap, drop, map, subst, sym}
use Rattle.std.proofs.lemmas.List.{at_drop_all, at_drop_more}
use Rattle.cp_model.specs.Abstract as a
use Rattle.cp_model.specs.Declarations.{define, define_all}
use Rattle.cp_model.specs.Erase as erase
use Rattle.cp_model.specs.declared.tree.ConstantDefinition.{ConstantDefinition}
use Rattle.cp_compile_symbols.specs.Outer.{OuterRepresents}
use Rattle.cp_compile_symbols.proofs.outer.Outer.define_constants.Goals as goal

abbrev definitions : List ConstantDefinition → List a.Definition
definitions ds = map erase.constant_definition (ds)

pub loop-d-preserved : goal.loop-d-preserved
loop-d-preserved c = λ g scope.
    let all = c.args.list.now in
    let i = c.loop-d.d-index in
    let d = c.d-item.result in
    let before = c.loop-d.invariant g scope in
    let one = define before.0 (erase.constant_definition (d)) in
    let step : define_all before.0 (definitions (drop i all)) ≡ define_all one (definitions (drop (i + 1) all)) =
    at_drop_more (λ ds. define_all before.0 (definitions ds)) all i d c.loop-d-test.true
    ∙ ap (λ (e : ConstantDefinition). define_all before.0 (definitions (e ∷ drop (i + 1) all))) (sym c.d-item.is) in
    (one, c.in_ok-define_constant.ensures before.0 before.1, sym step ∙ before.2)

pub returns : goal.returns
returns c = λ g scope.
    let all = c.args.list.now in
    let before = c.loop-d.invariant g scope in
    let none = at_drop_all (λ ds. define_all before.0 (definitions ds)) all c.loop-d.d-index c.loop-d-test.false in
    subst (OuterRepresents c.loop-d.self) (sym none ∙ before.2) before.1
