use Rattle.std.proofs.Common.{◌≡◌, ◌∷◌, ◌+◌, ◌-◌, ◌<◌, ◌∙◌, [], List, ap, arith, drop, length, map, reverse, sym}
use Rattle.std.proofs.lemmas.List.{at_drop_all, at_drop_more}
use Rattle.cp_model.specs.Erase as erase
use Rattle.cp_model.specs.declared.tree.Constant.{Constant}
use Rattle.cp_model_program.specs.CodedStatements.{arms_at}
use Rattle.cp_program.specs.Labels.{arm}
use Rattle.cp_compile_lower.proofs.Labelling.{label_before}
use Rattle.cp_compile_lower.proofs.translator.Translator.label.Goals as goal

pub loop-i-init : goal.loop-i-init
loop-i-init c = λ s scope.
    let all = c.args.labels.now in
    let rest = map arm (reverse c.args.arms.now.items) in
    sym (at_drop_all (λ (xs : List Constant). arms_at s.globals c.args.place (map erase.constant xs) rest) all (length all) (omega arith))

pub loop-i-preserved : goal.loop-i-preserved
loop-i-preserved c = λ s scope.
    let all = c.args.labels.now in
    let i = c.loop-i.i in
    let rest = map arm (reverse c.args.arms.now.items) in
    let place = c.args.place in
    let o = c.index-labels-i.result in
    let within : i - 1 < length all = omega arith in
    let next : i - 1 + 1 ≡ i = omega arith in
    let split = at_drop_more (λ (xs : List Constant). arms_at s.globals place (map erase.constant xs) rest) all (i - 1) o within
    ∙ (ap (λ (x : Constant). arms_at s.globals place (map erase.constant (x ∷ drop (i - 1 + 1) all)) rest) (sym c.index-labels-i.is)
    ∙ ap (λ k. arms_at s.globals place (map erase.constant (o ∷ drop k all)) rest) next) in
    c.in_ok-add_label.ensures s scope
    ∙ (ap (arms_at s.globals place (erase.constant o ∷ [])) (c.loop-i.invariant s scope)
    ∙ (label_before s.globals place (erase.constant o) (map erase.constant (drop i all)) rest ∙ sym split))
