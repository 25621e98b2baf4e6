use Rattle.std.proofs.Common.{◌≡◌, ◌+◌, ◌∷◌, drop, map, ap, sym, ◌∙◌}
use Rattle.std.proofs.lemmas.List.{at_drop_more}
use Rattle.cp_model.specs.RulesDeclarations as d
use Rattle.cp_model.specs.View as view
use Rattle.cp_rules.specs.Checking.{after}
use Rattle.cp_rules.proofs.RoutineParts.{rest_routines}
use Rattle.cp_rules.proofs.checker.Checker.routines.Goals as goal

pub loop-routine-preserved : goal.loop-routine-preserved
loop-routine-preserved c =
    let all = c.args.list.now in
    let i = c.loop-routine.routine-index in
    let old = c.loop-routine.self in
    let r = view.routine c.routine-item.result in
    let rs = map view.routine (drop (i + 1) all) in
    let step : map view.routine (drop i all) ≡ r ∷ rs =
    at_drop_more (map view.routine) all i c.routine-item.result c.loop-routine-test.true
    ∙ ap (λ f. map view.routine (f ∷ drop (i + 1) all)) (sym c.routine-item.is) in
    rest_routines old c.routine.new.self c.args.sort r rs c.in_ok-routine.ensures
    ∙ sym (ap (λ list. after old (d.routines old.env c.args.sort list)) step) ∙ c.loop-routine.invariant
