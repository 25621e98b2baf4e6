use Rattle.std.proofs.Common.{◌≡◌, ◌∷◌, ◌+◌, ◌∙◌, List, ap, drop, map, refl, subst, sym}
use Rattle.std.proofs.lemmas.List.{at_drop_more, drop_all}
use Rattle.cp_model.specs.Erase as erase
use Rattle.cp_model.specs.View as view
use Rattle.cp_model.specs.declared.tree.Index.{Index}
use Rattle.cp_compile_symbols.proofs.Parts.{PartlyIndexed, all_indexed, one_indexed}
use Rattle.cp_compile_symbols.proofs.scope.Scope.indexed_type.Goals as goal

pub loop-index-init : goal.loop-index-init
loop-index-init c = λ s d typed. record { part_of = d; typed = typed; rest = refl }

pub loop-index-preserved : goal.loop-index-preserved
loop-index-preserved c = λ s d typed.
    let scope = c.args.self.now in
    let all = c.args.indices.now in
    let k = c.loop-index._index-index in
    let whole = erase.with_indices d (view.indices_of (map view.index all)) in
    let i = c._index-item.result in
    let next : drop k all ≡ i ∷ drop (k + 1) all =
    at_drop_more (λ (is : List Index). is) all k i c.loop-index-test.true ∙ ap (λ (j : Index). j ∷ drop (k + 1) all) (sym c._index-item.is) in
    one_indexed scope s whole c.loop-index.of c.element_type-of.result i (drop (k + 1) all) c.element_type-of.ensures
    (subst (PartlyIndexed scope s whole c.loop-index.of) next (c.loop-index.invariant s d typed))

pub returns : goal.returns
returns c = λ s d typed.
    let all = c.args.indices.now in
    let k = c.loop-index._index-index in
    all_indexed c.args.self.now s (erase.with_indices d (view.indices_of (map view.index all))) c.loop-index.of (drop k all)
    (drop_all k all c.loop-index-test.false) (c.loop-index.invariant s d typed)
