use Rattle.std.proofs.Common.{◌≡◌, ◌+◌, ◌∷◌, List, drop, map, ap, sym, ◌∙◌, arith}
use Rattle.std.proofs.lemmas.List.{at_drop_more, drop_all}
use Rattle.cp_model.specs.RulesDeclarations as d
use Rattle.cp_model.specs.View as view
use Rattle.cp_rules.specs.Headings.{Collected, collection, with_heading, with_part}
use Rattle.cp_rules.proofs.HeadingGroups.{end_collected, rest_collected, rest_judged}
use Rattle.cp_rules.proofs.checker.Checker.heading.Goals as goal

pub loop-group-preserved : goal.loop-group-preserved
loop-group-preserved c =
    let all = c.args.groups.now in
    let i = c.loop-group.group-index in
    let old = c.loop-group.self in
    let new = c.parameter_group.new.self in
    let g = view.parameters c.group-item.result in
    let gs = map view.parameters (drop (i + 1) all) in
    let step : map view.parameters (drop i all) ≡ g ∷ gs =
    at_drop_more (map view.parameters) all i c.group-item.result c.loop-group-test.true
    ∙ ap (λ f. map view.parameters (f ∷ drop (i + 1) all)) (sym c.group-item.is) in
    let made = c.in_ok-parameter_group.ensures in
    let words = ap (λ (k : Collected). k.words) made.heading in
    record {
      judged = rest_judged old new c.args.of c.args.is_function g gs made.state
          ∙ sym (ap (λ hs. with_heading old (d.heading old.env c.args.of c.args.is_function hs)) step) ∙ c.loop-group.invariant.judged;
      within = omega (arith, words);
      collected = rest_collected old new c.args.of c.args.is_function g gs made.state (collection c.loop-group.heading) (collection c.parameter_group.new.heading) made.heading
          ∙ sym (ap (λ hs. with_part (collection c.loop-group.heading) (d.heading old.env c.args.of c.args.is_function hs)) step) ∙ c.loop-group.invariant.collected;
    }

pub returns : goal.returns
returns c =
    let all = c.args.groups.now in
    let i = c.loop-group.group-index in
    let old = c.loop-group.self in
    let none = drop_all i all c.loop-group-test.false in
    let rest = λ (gs : List _). d.heading old.env c.args.of c.args.is_function (map view.parameters gs) in (
      sym (ap (λ (gs : List _). with_heading old (rest gs)) none) ∙ c.loop-group.invariant.judged,
      end_collected (collection c.loop-group.heading) (rest (drop i all)) (ap (λ (gs : List _). (rest gs).bound) none)
          (ap (λ (gs : List _). (rest gs).rows) none) (ap (λ (gs : List _). (rest gs).words) none) c.loop-group.invariant.within
          ∙ c.loop-group.invariant.collected,
    )
