use Rattle.std.proofs.Common.{◌≡◌, ◌+◌, ◌∷◌, List, drop, map, ap, sym, ◌∙◌}
use Rattle.std.proofs.lemmas.List.{at_drop_more, drop_all}
use Rattle.cp_model.specs.RulesDeclarations as d
use Rattle.cp_model.specs.RulesTypes.{cap_words}
use Rattle.cp_model.specs.View as view
use Rattle.cp_rules.specs.Declaring.{with_variables}
use Rattle.cp_rules.proofs.CappedWords.{capped_end, capped_most}
use Rattle.cp_rules.proofs.Groups.{rest_counted, rest_declared}
use Rattle.cp_rules.proofs.checker.Checker.variables.Goals as goal

pub loop-group-preserved : goal.loop-group-preserved
loop-group-preserved c =
    let all = c.args.groups.now in
    let i = c.loop-group.group-index in
    let p = c.args.position in
    let old = c.loop-group.self in
    let new = c.variable_group.new.self in
    let g = view.variables c.group-item.result in
    let gs = map view.variables (drop (i + 1) all) in
    let step : map view.variables (drop i all) ≡ g ∷ gs =
    at_drop_more (map view.variables) all i c.group-item.result c.loop-group-test.true
    ∙ ap (λ f. map view.variables (f ∷ drop (i + 1) all)) (sym c.group-item.is) in
    let made = c.in_ok-more.ensures in
    record {
      declared = rest_declared old new p g gs made.0 ∙ sym (ap (λ hs. with_variables old (d.variables old.env p hs)) step) ∙ c.loop-group.invariant.declared;
      within = capped_most c.sum-words.result _ c.sum-words.ensures;
      words = rest_counted old new p g gs made.0 c.loop-group.words c.in_ok-more.more c.sum-words.result made.1 c.sum-words.ensures
          ∙ sym (ap (λ hs. cap_words (c.loop-group.words + (d.variables old.env p hs).words)) step) ∙ c.loop-group.invariant.words;
    }

pub returns : goal.returns
returns c =
    let all = c.args.groups.now in
    let i = c.loop-group.group-index in
    let old = c.loop-group.self in
    let none = drop_all i all c.loop-group-test.false in
    let ended = ap (λ (gs : List _). (d.variables old.env c.args.position (map view.variables gs)).words) none in (
      sym (ap (λ (gs : List _). with_variables old (d.variables old.env c.args.position (map view.variables gs))) none) ∙ c.loop-group.invariant.declared,
      capped_end c.loop-group.words _ _ c.loop-group.invariant.within ended c.loop-group.invariant.words,
    )
