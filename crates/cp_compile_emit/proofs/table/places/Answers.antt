use Rattle.std.proofs.Common.{◌≡◌, ◌∷◌, ◌+◌, ◌-◌, ◌<◌, ◌≤◌, List, Option, Some, ℕ, drop, get_or, length, map, pos, ap, sym, ◌∙◌, arith}
use Rattle.std.proofs.Math.ListN.{set}
use Rattle.std.specs.Prelude.{int_le, if◌then◌else◌}
use Rattle.std.proofs.lemmas.List.{at_drop_all, at_drop_more}
use Rattle.cp_model_program.specs.Layout.{distance}
use Rattle.cp_model_program.specs.CodedStatements.{places_from}
use Rattle.cp_program.specs.Labels.{arm}
use Rattle.cp_program.specs.declared.arm.Arm.{Arm}
use Rattle.cp_program.proofs.Wide.{narrow}
use Rattle.cp_compile_emit.proofs.Placing.{arm_put, none_left}
use Rattle.cp_compile_emit.proofs.table.places.Goals as goal

pub loop-i-init : goal.loop-i-init
loop-i-init c =
    let all = c.args.arms.now in
    let low = narrow c.args.low in
    let end : length all ≤ length all = omega arith in
    c.in_ok-places.ensures
    ∙ (none_left low c.args.count
    ∙ sym (at_drop_all (λ xs. places_from (map arm xs) low c.args.count) all (length all) end))

pub loop-i-preserved : goal.loop-i-preserved
loop-i-preserved c =
    let all = c.args.arms.now in
    let i = c.loop-i.i in
    let low = narrow c.args.low in
    let none : Arm = record { label = pos 0; place = 0 } in
    let x = get_or all (i - 1) none in
    let within : i - 1 < length all = omega arith in
    let next : i - 1 + 1 ≡ i = omega arith in
    let split = at_drop_more (λ xs. places_from (map arm xs) low c.args.count) all (i - 1) none within
    ∙ ap (λ k. places_from (map arm (x ∷ drop k all)) low c.args.count) next in
    c.put.ensures
    ∙ (ap (λ (ps : List (Option ℕ)). if int_le low x.label then set ps (distance low x.label) (Some x.place) else ps) c.loop-i.invariant
    ∙ (arm_put (map arm (drop i all)) (arm x) low c.args.count
    ∙ sym split))
