use Rattle.std.proofs.Common.{rules, ◌≡◌, ◌≤◌, ◌<◌, ◌+◌, ◌-◌, ◌∙◌, suc, List, true, false, ap, get_or, length, map, sym, arith}
use Rattle.std.specs.Prelude.{nat_lt}
use Rattle.std.specs.List.{swap}
use Rattle.std.proofs.lemmas.Bool.{le-ltb, lt-ltb}
use Rattle.std.proofs.lemmas.List.{length-map}
use Rattle.cp_model_program.specs.Plans.{weight}
use Rattle.cp_compile_emit.specs.declared.plan.Placed.{Placed}
use Rattle.cp_compile_emit.specs.Planning.{known_of, placed_in}
use Rattle.cp_compile_emit.proofs.PartsPlanned.{all_swept, nowhere, one_swept, swept}
use Rattle.cp_compile_emit.proofs.plan.Planner.arrange.Goals as goal
use Rattle.cp_compile_emit.proofs.plan.Planner.arrange.Goals.{then-weight, else-weight}

pub loop-i-preserved : goal.loop-i-preserved
loop-i-preserved c =
    let f = placed_in (known_of c.args.self.now) in
    let ps = c.loop-i.parts in
    let i = c.loop-i.i in
    let n = i - 1 in
    let next : i + 1 - 1 ≡ suc n = omega arith in
    let here : i ≡ suc n = omega arith in
    let within : suc n < length ps = omega arith in
    let one : c.weight.result ≡ weight (f (get_or ps (suc n) nowhere)) = c.weight.ensures ∙ ap (λ k. weight (f (get_or ps k nowhere))) here in
    let other : c.weight-in-loop-i.result ≡ weight (f (get_or ps n nowhere)) = c.weight-in-loop-i.ensures in
    let now : swept (i + 1 - 1) (map f c.if-weight.parts) ≡ swept n (map f ps) =
    elim c.if-weight.branch [
      | then-weight w ↦
          let lighter : true ≡ nat_lt (weight (f (get_or ps (suc n) nowhere))) (weight (f (get_or ps n nowhere))) = sym (lt-ltb _ _ (omega (arith, one, other, w.if-weight.true))) in
          let moved : c.if-weight.parts ≡ swap ps n i = search rules in
          ap (λ k. swept k (map f c.if-weight.parts)) next ∙ ap (λ (qs : List Placed). swept (suc n) (map f qs)) (moved ∙ ap (swap ps n) here)
          ∙ one_swept f ps n true nowhere within lighter
      | else-weight w ↦
          let heavier : false ≡ nat_lt (weight (f (get_or ps (suc n) nowhere))) (weight (f (get_or ps n nowhere))) = sym (le-ltb _ _ (omega (arith, one, other, w.if-weight.false))) in
          let same : c.if-weight.parts ≡ ps = search rules in
          ap (λ k. swept k (map f c.if-weight.parts)) next ∙ ap (λ (qs : List Placed). swept (suc n) (map f qs)) same ∙ one_swept f ps n false nowhere within heavier
    ] in
    now ∙ c.loop-i.invariant

pub returns : goal.returns
returns c =
    let f = placed_in (known_of c.args.self.now) in
    let ps = c.loop-i.parts in
    let few : length (map f ps) ≤ suc (c.loop-i.i - 1) = omega (arith, length-map ps f) in
    sym (all_swept (map f ps) (c.loop-i.i - 1) few) ∙ c.loop-i.invariant
