use Rattle.std.proofs.Common.{◌≡◌, ◌+◌, ◌-◌, ◌<◌, ◌≤◌, ◌∙◌, List, ap, sym, drop, get_or, length, map, arith}
use Rattle.std.proofs.lemmas.List.{at_drop_all, at_drop_more}
use Rattle.cp_model_program.specs.Plans.{plan_before, plan_in_order}
use Rattle.cp_program.specs.View.{plan_at}
use Rattle.cp_compile_emit.specs.declared.plan.Placed.{Placed}
use Rattle.cp_compile_emit.specs.Drafts.{starts_of}
use Rattle.cp_compile_emit.specs.Planning.{known_of, placed_in}
use Rattle.cp_compile_emit.proofs.PartsPlanned.{nowhere}
use Rattle.cp_compile_emit.proofs.plan.Planner.plan_in_order.Goals as goal

pub loop-i-init : goal.loop-i-init
loop-i-init c =
    let known = known_of c.args.self.now in
    let all = c.args.parts.now in
    let end : length all ≤ length all = omega arith in
    ap (starts_of known) c.new-draft.ensures
    ∙ sym (at_drop_all (λ (ps : List Placed). plan_in_order (map (placed_in known) ps)) all (length all) end)

pub loop-i-preserved : goal.loop-i-preserved
loop-i-preserved c =
    let known = known_of c.args.self.now in
    let all = c.args.parts.now in
    let i = c.loop-i.i in
    let x = get_or all (i - 1) nowhere in
    let within : i - 1 < length all = omega arith in
    let next : i - 1 + 1 ≡ i = omega arith in
    let split = at_drop_more (λ (ps : List Placed). plan_in_order (map (placed_in known) ps)) all (i - 1) nowhere within
    ∙ ap (λ k. plan_before x.at (plan_at known x.plan) (plan_in_order (map (placed_in known) (drop k all)))) next in
    c.in_ok-put.ensures ∙ ap (plan_before x.at (plan_at known x.plan)) c.loop-i.invariant ∙ sym split
