use Rattle.std.proofs.Common.{◌≡◌, ◌∙◌, Some, ap, slice_get}
use Rattle.cp_program.specs.View.{plan_at}
use Rattle.cp_compile_emit.specs.Planning.{known_of}
use Rattle.cp_compile_emit.proofs.PlansKept.{number_planned}
use Rattle.cp_compile_emit.proofs.plan.Planner.plan_number.Goals as goal

pub returns : goal.returns
returns c = λ g t knows represents.
    let known = known_of c.args.self.now in
    let plans = c.in_ok-plans.plans in
    let there : slice_get c.args.self.now.types.items c.args.of ≡ Some (Some plans) = rw c.in_ok-plans.ensures.ok_part at c.numbers.ensures in
    ap (plan_at known) c.number.ensures
    ∙ number_planned known g c.args.zeros plans t (knows.planned c.args.of plans t there represents)
