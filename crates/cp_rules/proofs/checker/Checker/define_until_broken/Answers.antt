use Rattle.std.proofs.Common.{◌≡◌, ◌+◌, ◌<◌, [], List, None, length, map, ap, sym, ◌∙◌}
use Rattle.std.proofs.lemmas.List.{take_rest}
use Rattle.cp_model.specs.View as view
use Rattle.cp_model.specs.declared.tree.Section.{Section}
use Rattle.cp_model.specs.declared.tree.TypeDefinition.{TypeDefinition}
use Rattle.cp_rules.specs.Checking.{State, after}
use Rattle.cp_rules.specs.Definitions.{define_types}
use Rattle.cp_rules.specs.Endings.{rest_from, reported_with}
use Rattle.cp_rules.proofs.UntilBroken.{no_violation, section_reported}
use Rattle.cp_rules.proofs.checker.Checker.define_until_broken.Goals as goal

pub returns-then-is_some : goal.returns-then-is_some
returns-then-is_some c =
    let t = view.tree c.args.tree.now in
    let all = c.args.tree.now.sections.items in
    let i = c.loop-i.i in
    let new = c.define_section_until_broken.new.self in
    let ds = map view.type_definition c.in_ok-definitions.definitions.now in
    let listed = c.deref-section-items.ensures.value in
    let within : i < length all = rw listed at c.loop-i-test.true in
    rw (c.deref.ensures.value) (ap (λ (xs : List Section). reported_with new (rest_from t ds (map view.section_of xs))) (take_rest all (i + 1)))
    ∙ section_reported t c.loop-i.self new ds all i c.section-item.result within (rw listed at c.section-item.is) c.in_ok-definitions.ensures.same_end
    ∙ c.loop-i.invariant

pub loop-i-preserved : goal.loop-i-preserved
loop-i-preserved c =
    let all = c.args.tree.now.sections.items in
    let i = c.loop-i.i in
    let new = c.define_section_until_broken.new.self in
    let listed = c.deref-section-items.ensures.value in
    let within : i < length all = rw listed at c.loop-i-test.true in
    let sound : new.diagnostics ≡ None =
    sym (ap (λ (z : State). z.diagnostics) c.self.view_is) ∙ sym c.first.ensures
    ∙ no_violation c.first.result (sym c.is_some.ensures ∙ c.if-is_some.false) in
    let none = c.in_ok-definitions.ensures.all_if_sound sound in
    let same = sym (ap (λ (ds : List TypeDefinition). after new (define_types new.env (map view.type_definition ds))) none)
    ∙ c.in_ok-definitions.ensures.same_end in
    section_reported (view.tree c.args.tree.now) c.loop-i.self new [] all i c.section-item.result within (rw listed at c.section-item.is) same ∙ c.loop-i.invariant
