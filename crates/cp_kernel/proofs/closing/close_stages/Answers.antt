use Rattle.std.proofs.Common.{◌≡◌, ◌+◌, ◌<◌, suc, Some, slice_get, slice_set, length, map, ap, sym, ◌∙◌, arith}
use Rattle.std.specs.Prelude.{option_map, slice_index_or}
use Rattle.std.proofs.lemmas.List.{length-map, map-set}
use Rattle.std.proofs.lemmas.Option.{slice_get-get_or, slice_get-map}
use Rattle.cp_private.specs.States.{stage as stage_view}
use Rattle.cp_private.specs.declared.kernel_view.SchedulingState.TheVariants as stage
use Rattle.cp_model_machine.specs.Machines as plain
use Rattle.cp_kernel.proofs.Changed.{all_changed, changed_below, got_changed, next_changed}
use Rattle.cp_kernel.proofs.closing.close_stages.Goals as goal

pub loop-stage-preserved : goal.loop-stage-preserved
loop-stage-preserved c =
    let f = plain.next_stage in
    let i = c.loop-stage.stage-index in
    let xs = c.loop-stage.stages in
    let all = map stage_view c.args.stages.now in
    let below : i < length xs = omega (arith, c.loop-stage-test.true, c.loop-stage.auto.stages) in
    let x = slice_index_or xs i stage.Unstarted in
    let here : slice_get (map stage_view xs) i ≡ Some (stage_view x) =
    slice_get-map stage_view xs i ∙ ap (option_map stage_view) (slice_get-get_or xs i stage.Unstarted below) in
    let was = c.loop-stage.invariant in
    let there = sym (got_changed f i all) ∙ (ap (λ ys. slice_get ys i) (sym was) ∙ here) in
    let next : suc i ≡ i + 1 = omega arith in
    map-set stage_view xs i c.next_stage.result
    ∙ (ap (slice_set (map stage_view xs) i) c.next_stage.ensures
    ∙ (ap (λ ys. slice_set ys i (f (stage_view x))) was
    ∙ (next_changed f i all (stage_view x) there ∙ ap (λ n. changed_below f n all) next)))

pub returns : goal.returns
returns c = record {
  stages =
      let f = plain.next_stage in
      let all = map stage_view c.args.stages.now in
      let end : c.loop-stage.stage-index ≡ length all = omega (arith, c.loop-stage-test.false, c.loop-stage.auto.stage-index-end, length-map c.args.stages.now stage_view) in
      c.loop-stage.invariant ∙ (ap (λ n. changed_below f n all) end ∙ all_changed f all);
}
