use Rattle.std.proofs.Common.{◌∙◌, ap, subst, sym}
use Rattle.std.specs.Borrow.{Bor}
use Rattle.cp_compile_symbols.specs.declared.tables.Tables.{Tables}
use Rattle.cp_compile_symbols.specs.Representing.{Represents}
use Rattle.cp_compile_emit.proofs.PlansKept.{knows_kept, number_there, plan_kept, there_kept}
use Rattle.cp_compile_emit.proofs.plan.Planner.add_type_plans.Goals as goal

pub returns-clause-plans : goal.returns-clause-plans
returns-clause-plans c = λ g t knows represents.
    let old = c.args.self.now in
    let mid = c.add_type_plan.new.self in
    let new = c.add_type_plan-2.new.self in
    let first = c.in_ok-plain.ensures.extends in
    let second = c.in_ok-zeroed.ensures.extends in
    let after = knows_kept old mid g first (ap (λ v. v.items) c.in_ok-plain.ensures.types) knows in
    let represents' = subst (λ (b : Bor Tables). Represents b.now.types c.args.of t) (sym first.tables_are) represents in
    let there = number_there mid c.in_ok-plain.plain c.in_ok-plain.ensures.number in
    record {
      plain_there = there_kept mid new c.in_ok-plain.plain second there;
      zeroed_there = number_there new c.in_ok-zeroed.zeroed c.in_ok-zeroed.ensures.number;
      plain = plan_kept mid new c.in_ok-plain.plain second there ∙ c.in_ok-plain.ensures.plan g t knows represents;
      zeroed = c.in_ok-zeroed.ensures.plan g t after represents';
    }
