use Rattle.std.proofs.Common.{◌≡◌, true, ◌<◌, ◌∙◌, length, map, subst, arith}
use Rattle.cp_model.specs.Declarations.{declarations}
use Rattle.cp_compile_symbols.specs.Texts.{AreSystems}
use Rattle.cp_compile_symbols.specs.Variables.{declared_entry}
use Rattle.cp_compile_symbols.specs.declared.tables.Tables.{Tables}
use Rattle.cp_compile_emit.specs.ComponentPlans.{ArePlans, table_fits}
use Rattle.cp_model_program.specs.Plans.{plan_of_component}
use Rattle.cp_program.specs.View.{plan_at}
use Rattle.cp_compile_emit.specs.Planning.{known_of}
use Rattle.cp_compile_emit.proofs.PlansKept.{number_there, plan_kept}
use Rattle.cp_compile.specs.CompiledPrograms.{text_of}
use Rattle.cp_compile.proofs.ProgramsCompiled.{planner_after, planner_types}
use Rattle.cp_compile.proofs.compiler.make_plans.Goals as goal

pub returns-clause-plans : goal.returns-clause-plans
returns-clause-plans c = λ g t represents planner.
    let tables = c.args.tables.now in
    let s = (text_of t).initial in
    let old = c.args.planner.now in
    let mid = c.add_component.new.self in
    let new = c.add_components.new.self in
    let declared = planner_types tables old g planner in
    let made = rw (c.deref.ensures.value, c.deref-2.ensures.value) at c.in_ok-initial.ensures.plan in
    let own : table_fits tables.initial ≡ true → plan_at (known_of mid) c.in_ok-initial.initial ≡ plan_of_component g s =
    λ fits. made g s planner.knows (c.has_room.ensures ∙ fits) (declared (map declared_entry tables.initial.parameters.items) (declarations g s.parameters) represents.initial.parameters)
    (declared (map declared_entry tables.initial.variables.items) (declarations g s.variables) represents.initial.variables) in
    let after = planner_after tables old mid g c.in_ok-initial.ensures.extends (c.in_ok-initial.ensures.knows g planner.knows) planner in
    let there : c.in_ok-initial.initial < length mid.plans.items = omega (arith, c.in_ok-initial.ensures.number, c.in_ok-initial.ensures.added) in
    let plans = c.in_ok-first.ensures.plans g after.knows in
    record {
      systems = (subst (λ (z : Tables). AreSystems g z.types z.systems.items → ArePlans g z (known_of new) c.in_ok-first.first) after.over plans) represents.systems;
      initial_is = λ fits. plan_kept mid new c.in_ok-initial.initial c.in_ok-first.ensures.extends (number_there mid c.in_ok-initial.initial there) ∙ own fits;
    }

pub returns-in_err-initial-clause-planner : goal.returns-in_err-initial-clause-planner
returns-in_err-initial-clause-planner c = λ g planner.
    planner_after c.args.tables.now c.args.planner.now c.add_component.new.self g c.in_err-initial.ensures.extends (c.in_err-initial.ensures.knows g planner.knows) planner

pub returns-in_err-first-clause-planner : goal.returns-in_err-first-clause-planner
returns-in_err-first-clause-planner c = λ g planner.
    let tables = c.args.tables.now in
    let mid = c.add_component.new.self in
    let after = planner_after tables c.args.planner.now mid g c.in_ok-initial.ensures.extends (c.in_ok-initial.ensures.knows g planner.knows) planner in
    planner_after tables mid c.add_components.new.self g c.in_err-first.ensures.extends (c.in_err-first.ensures.knows g after.knows) after

pub returns-clause-planner : goal.returns-clause-planner
returns-clause-planner c = λ g planner.
    let tables = c.args.tables.now in
    let mid = c.add_component.new.self in
    let after = planner_after tables c.args.planner.now mid g c.in_ok-initial.ensures.extends (c.in_ok-initial.ensures.knows g planner.knows) planner in
    planner_after tables mid c.add_components.new.self g c.in_ok-first.ensures.extends (c.in_ok-first.ensures.knows g after.knows) after
