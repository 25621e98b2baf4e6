use Rattle.std.proofs.Common.{◌≡◌, Some, map, option_map, slice_get, refl, ap, sym, ◌∙◌, arith}
use Rattle.std.proofs.lemmas.List.{length-map}
use Rattle.std.proofs.lemmas.Option.{slice_get-get_or, slice_get-map}
use Rattle.cp_law_cores.specs.Clocks.{argument_is_timeless, arguments_are_timeless}
use Rattle.cp_program.specs.View as view
use Rattle.cp_search_clock.proofs.Whole.{left_more, left_past, more_arguments}
use Rattle.cp_search_clock.proofs.timeless.arguments_are_timeless.Goals as goal

pub loop-x-preserved : goal.loop-x-preserved
loop-x-preserved c =
    let xs = map view.argument c.args.xs.now in
    let i = c.loop-x.x-index in
    let x = c.x-item.result in
    let here : slice_get xs i ≡ Some (view.argument x) =
    slice_get-map view.argument c.args.xs.now i
    ∙ ap (option_map view.argument) (slice_get-get_or c.args.xs.now i x c.loop-x-test.true ∙ ap (λ z. Some z) (sym c.x-item.is)) in
    left_more argument_is_timeless arguments_are_timeless refl more_arguments xs i (view.argument x) here (c.argument_is_timeless.ensures c.if-not-argument_is_timeless.false) c.loop-x.invariant

pub returns : goal.returns
returns c = λ e.
    let xs = map view.argument c.args.xs.now in
    let past = c.loop-x-test.false in
    let count = length-map c.args.xs.now view.argument in
    c.loop-x.invariant (left_past argument_is_timeless arguments_are_timeless refl more_arguments xs c.loop-x.x-index (omega (arith, past, count)))
