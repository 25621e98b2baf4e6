use Rattle.std.proofs.Common.{◌∙◌, w32}
use Rattle.std.proofs.lemmas.Int.{to_z-of_z}
use Rattle.cp_model.specs.Integers.{count_between}
use Rattle.cp_model.proofs.Results.{if_ok}
use Rattle.cp_model_program.specs.Plans.{plan_of_elements, value_of_fill}
use Rattle.cp_compile_emit.proofs.plan.Planner.plan_array.Goals as goal

pub returns : goal.returns
returns c =
    let lows = to_z-of_z w32 c.args.low c.ranges.low in
    let highs = to_z-of_z w32 c.args.high c.ranges.high in
    let counted = c.in_ok-count_of.ensures ∙ (λ i. count_between (lows i) (highs i)) in
    if_ok c.plan_elements.result
    (λ draft made g t knows element.
    let planned = c.in_ok-plan.ensures g t knows element in
    let sized = c.in_ok-words.ensures g t knows element in
    made ∙ (λ i. plan_of_elements (sized i) (counted i) (value_of_fill (sized i) (planned i)) (planned i)))
    c.plan_elements.ensures
