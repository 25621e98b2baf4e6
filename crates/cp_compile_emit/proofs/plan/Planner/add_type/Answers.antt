use Rattle.std.proofs.Common.{rules, ◌≡◌, ◌∙◌, ◌∷◌, ◌++◌, [], Option, Vec, Global, ap, length, subst}
use Rattle.cp_compile_symbols.specs.Representing.{Represents}
use Rattle.cp_compile_emit.specs.declared.plan.Planner.{Planner}
use Rattle.cp_compile_emit.specs.declared.plan.TypePlans.{TypePlans}
use Rattle.cp_compile_emit.specs.Planning.{Extends, types_of}
use Rattle.cp_compile_emit.proofs.PlansKept.{type_added}
use Rattle.cp_compile_emit.proofs.plan.Planner.add_type.Goals as goal

pub returns-clause-knows : goal.returns-clause-knows
returns-clause-knows c = λ g knows.
    let old = c.args.self.now in
    let mid = c.add_type_plans.new.self in
    let new : Planner = record { alloc = mid.alloc; tables = mid.tables; types = c.push.new.self; plans = mid.plans } in
    let o = c.in_ok-plans.plans in
    let e = c.add_type_plans.ensures.extends in
    let extends : Extends old new = record { tables_are = e.tables_are; added = e.added; plans_are = e.plans_are } in
    let all : new.types.items ≡ old.types.items ++ o ∷ [] =
    c.in_ok-push.ensures.items ∙ ap (λ (v : Vec (Option TypePlans) Global). v.items ++ o ∷ []) c.add_type_plans.ensures.types in
    let number : length old.types.items ≡ c.len-of.result = search rules in
    type_added old new g o extends all
    (λ p t is known represents. (rw is at c.in_ok-plans.ensures.plans) g t known (subst (λ n. Represents (types_of old) n t) number represents)) knows
