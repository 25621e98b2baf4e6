use Rattle.std.proofs.Common.{◌≡◌, ◌∷◌, ◌+◌, ◌-◌, ◌<◌, ◌∙◌, List, ap, arith, drop, length, map, subst, sym}
use Rattle.std.proofs.lemmas.List.{at_drop_more}
use Rattle.cp_model.specs.Abstract as a
use Rattle.cp_model.specs.Erase as erase
use Rattle.cp_model.specs.View as tree
use Rattle.cp_model.specs.declared.tree.InitItem.{InitItem}
use Rattle.cp_model_program.specs.CodedStatements.{Emitted, emitted}
use Rattle.cp_compile_emit.specs.Emission.{place_of}
use Rattle.cp_compile_lower.specs.Statements.{Enters}
use Rattle.cp_compile_lower.proofs.Sequencing.{seq_entered}
use Rattle.cp_compile_lower.proofs.translator.Translator.initialise.Goals as goal

pub loop-i-preserved : goal.loop-i-preserved
loop-i-preserved c = λ s scope.
    let all = c.args.items.now in
    let i = c.loop-i.i in
    let o = c.index-items-i.result in
    let old = c.args.emitter.now in
    let x = a.Init o.component.name (erase.expressions (tree.init_item o).arguments) in
    let y = erase.items (map tree.init_item (drop i all)) in
    let made : List InitItem → Emitted = λ xs. emitted s (erase.items (map tree.init_item xs)) c.args.low (place_of old) c.args.next in
    let within : i - 1 < length all = omega arith in
    let next : i - 1 + 1 ≡ i = omega arith in
    let split : made (drop (i - 1) all) ≡ made (o ∷ drop i all) =
    at_drop_more made all (i - 1) o within
    ∙ (ap (λ (z : InitItem). made (z ∷ drop (i - 1 + 1) all)) (sym c.index-items-i.is) ∙ ap (λ k. made (o ∷ drop k all)) next) in
    subst (Enters old c.init_item.new.emitter c.in_ok-entry.entry) (sym split)
    (seq_entered s x y c.args.low c.args.next c.loop-i.entry c.in_ok-entry.entry old c.loop-i.emitter c.init_item.new.emitter (c.loop-i.invariant s scope)
    (c.in_ok-entry.ensures s scope))

pub returns : goal.returns
returns c = λ s scope.
    let all = c.args.items.now in
    let old = c.args.emitter.now in
    let none : c.loop-i.i ≡ 0 = omega arith in
    subst
    (λ k. Enters old c.loop-i.emitter c.loop-i.entry
    (emitted s (erase.items (map tree.init_item (drop k all))) c.args.low (place_of old) c.args.next)) none (c.loop-i.invariant s scope)
