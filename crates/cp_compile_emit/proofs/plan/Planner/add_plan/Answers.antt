use Rattle.std.proofs.Common.{rules, ◌≡◌, ◌∙◌, ap, length}
use Rattle.cp_program.specs.View.{plan_at}
use Rattle.cp_program.specs.declared.program.StartPlan.{StartPlan}
use Rattle.cp_compile_emit.specs.declared.plan.Planner.{Planner}
use Rattle.cp_compile_emit.specs.Planning.{known_of}
use Rattle.cp_compile_emit.proofs.PlansKept.{one_added}
use Rattle.cp_compile_emit.proofs.plan.Planner.add_plan.Goals as goal

pub returns-clause-plan : goal.returns-clause-plan
returns-clause-plan c =
    let old = c.args.self.now in
    let new : Planner = record { alloc = old.alloc; tables = old.tables; types = old.types; plans = c.push.new.self } in
    let p : StartPlan = record { starts = c.into_starts.result } in
    let number : c.in_ok-number.number ≡ length old.plans.items = search rules in
    ap (plan_at (known_of new)) number ∙ one_added old new p c.in_ok-push.ensures.items ∙ c.into_starts.ensures (known_of old)
