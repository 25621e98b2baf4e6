use Rattle.std.proofs.Common.{◌≡◌, ◌∙◌, Some, ap, refl, rules, subst, sym}
use Rattle.cp_model.specs.Integers.{count_between}
use Rattle.cp_model.proofs.Results.{if_ok}
use Rattle.cp_law_typing.specs.Words.{words}
use Rattle.cp_compile_symbols.specs.Layouts.{Counts}
use Rattle.cp_compile_symbols.proofs.Laying.{array_laid, component_laid, laid_later, record_laid}
use Rattle.cp_compile_symbols.proofs.Representing.{has_system, same_system}
use Rattle.cp_compile_symbols.proofs.layout.Layouts.row.Goals as goal

pub returns-in_ok-size-in-Array : goal.returns-in_ok-size-in-Array
returns-in_ok-size-in-Array c = λ g later n t scope grows laid at represents.
    let l = c.bare-in-Array.result in
    let low = c.in-Array.low in
    let high = c.in-Array.high in
    let e = c.in-Array.element in
    let between : c.count_between.result ≡ count_between low high = search rules in
    let count : Counts c.as_count.result (count_between low high) = subst (Counts c.as_count.result) between c.as_count.ensures in
    array_laid g later n l t low high e (at ∙ ap Some c.in-Array.is) represents c.bare-in-Array.ensures.parts
    (λ u s. rw c.bare-in-Array.ensures.words
    (c.product-words.ensures (count_between low high) (words g u) count
    (c.in_ok-size-in-Array.ensures g later u (laid_later g c.args.types.now later c.args.self.now.rows.items grows laid) s)))

pub returns-in-Record : goal.returns-in-Record
returns-in-Record c =
    let members = rw c.deref.ensures.value at c.members.ensures in
    if_ok c.members.result
    (λ l lays g later n t scope grows laid at represents.
    record_laid g later n l t c.in-Record.fields (at ∙ ap Some c.in-Record.is) represents
    (λ ms represent. lays g later 0 ms (laid_later g c.args.types.now later c.args.self.now.rows.items grows laid) represent refl))
    members

pub returns-in-Some : goal.returns-in-Some
returns-in-Some c =
    let component = rw c.deref-in-Some.ensures.value at c.component.ensures in
    if_ok c.component.result
    (λ l lays g later n t scope grows laid at represents.
    component_laid g later n l t c.in-Component.system c.in-Component.members c.in-Some.system (at ∙ ap Some c.in-Component.is)
    (same_system c.args.types.now later grows c.in-Component.system ∙ sym c.in-Some.ensures) represents
    (λ ms represent. lays g later ms scope grows laid represent))
    component

pub returns-in-None : goal.returns-in-None
returns-in-None c = λ g later n t scope grows laid at represents.
    absurd
    (has_system later n t c.in-Component.system c.in-Component.members (at ∙ ap Some c.in-Component.is) represents
    (same_system c.args.types.now later grows c.in-Component.system ∙ sym c.in-None.ensures))
