use Rattle.std.proofs.Common.{ap}
use Rattle.cp_compile_emit.proofs.PlansKept.{knows_kept}
use Rattle.cp_compile_emit.proofs.plan.Planner.add_component.Goals as goal

pub returns-clause-knows : goal.returns-clause-knows
returns-clause-knows c = λ g knows.
    knows_kept c.args.self.now c.add_plan.new.self g c.add_plan.ensures.extends (ap (λ v. v.items) c.add_plan.ensures.types) knows
