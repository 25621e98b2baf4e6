use Rattle.std.proofs.Common.{◌≤◌, ◌<◌, length, ap, ◌∙◌, arith}
use Rattle.std.proofs.lemmas.List.{length-map}
use Rattle.cp_program.specs.View as view
use Rattle.cp_compile_emit.specs.Emission.{with_repeated}
use Rattle.cp_compile_emit.proofs.Changing.{changed_past, changed_set}
use Rattle.cp_compile_emit.proofs.emission.complete_repeat_at.Goals as goal

pub returns-then-place-len : goal.returns-then-place-len
returns-then-place-len c =
    let os = c.args.operations.now.items in
    let within : c.args.place < length os = omega (arith, c.if-place-len.true, c.len.ensures) in
    changed_set view.operation (with_repeated c.args.body) os c.args.place c.complete_repeat.new.operation c.index_mut.result.now within
    (c.complete_repeat.ensures ∙ ap (λ o. with_repeated c.args.body (view.operation o)) c.index_mut.ensures.value)

pub returns-else-place-len : goal.returns-else-place-len
returns-else-place-len c =
    let os = c.args.operations.now.items in
    let past : length os ≤ c.args.place = omega (arith, c.if-place-len.false, c.len.ensures) in
    changed_past c.args.place (with_repeated c.args.body) _ (omega (arith, length-map os view.operation))
