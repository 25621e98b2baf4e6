use Rattle.std.proofs.Common.{rules, ◌≡◌, ◌∙◌, Bor, Some, None, ap, sym, slice_get, take}
use Rattle.std.specs.Prelude.{option_map}
use Rattle.cp_program.specs.View.{plan_of}
use Rattle.cp_program.specs.declared.program.StartPlan.{StartPlan}
use Rattle.cp_program.proofs.PlansKnown.{plan_known}
use Rattle.cp_compile_emit.specs.Planning.{known_of}
use Rattle.cp_compile_emit.proofs.plan.Planner.starts.Goals as goal

pub returns-in-Some : goal.returns-in-Some
returns-in-Some c =
    let plans = c.args.self.now.plans.items in
    let there : slice_get plans c.args.plan ≡ Some c.in-Some.plan.now = sym c.plan.ensures ∙ ap (option_map (λ (p : Bor StartPlan). p.now)) c.in-Some.is in
    let same : c.as_slice.result.now ≡ c.in-Some.plan.now.starts.items = search rules in
    ap (plan_of (take c.args.plan (known_of c.args.self.now))) same ∙ plan_known plans c.args.plan (Some c.in-Some.plan.now) there

pub returns-in-None : goal.returns-in-None
returns-in-None c =
    let plans = c.args.self.now.plans.items in
    let none : slice_get plans c.args.plan ≡ None = sym c.plan.ensures ∙ ap (option_map (λ (p : Bor StartPlan). p.now)) c.in-None.is in
    plan_known plans c.args.plan None none
