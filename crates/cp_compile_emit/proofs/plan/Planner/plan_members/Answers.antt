use Rattle.std.proofs.Common.{rules, ◌≡◌, ◌∙◌, List, ap, drop, length, map, sym}
use Rattle.cp_model.proofs.Results.{if_ok}
use Rattle.cp_model_program.specs.Plans.{arranged, plan_in_order}
use Rattle.cp_compile_emit.specs.declared.plan.Placed.{Placed}
use Rattle.cp_compile_emit.specs.Planning.{known_of, placed_in}
use Rattle.cp_compile_emit.proofs.PartsPlanned.{take_first}
use Rattle.cp_compile_emit.proofs.plan.Planner.plan_members.Goals as goal

pub returns : goal.returns
returns c =
    let f = placed_in (known_of c.args.self.now) in
    let parts = c.in_ok-parts.parts in
    let before = ap (λ (ps : List Placed). length ps) c.deref_mut.ensures.value in
    let kept : length c.arrange.new.parts ≡ length c.deref_mut.result.now = search rules in
    let long : parts.len ≡ length parts.items = search rules in
    let same : c.deref.result.now ≡ c.arrange.new.parts =
    c.deref.ensures.value ∙ take_first c.arrange.new.parts (drop (length c.arrange.new.parts) parts.items) parts.len (long ∙ sym (kept ∙ before)) in
    if_ok c.plan_in_order.result
    (λ draft made g ms knows represent.
    made ∙ ap (λ (ps : List Placed). plan_in_order (map f ps)) same ∙ ap plan_in_order (c.arrange.ensures ∙ ap (λ (ps : List Placed). arranged (map f ps)) c.deref_mut.ensures.value ∙ ap arranged (c.in_ok-parts.ensures g ms knows represent)))
    c.plan_in_order.ensures
