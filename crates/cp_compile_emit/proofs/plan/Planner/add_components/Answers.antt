use Rattle.std.proofs.Common.{rules, true, ◌≡◌, ◌+◌, ◌∙◌, Bor, Some, None, ap, length, map, slice_get, subst, sym, arith}
use Rattle.std.specs.Prelude.{option_map}
use Rattle.std.proofs.lemmas.Option.{same_Some}
use Rattle.cp_model.specs.Declarations.{declarations}
use Rattle.cp_model.specs.Erase as erase
use Rattle.cp_model.specs.View as tree_view
use Rattle.cp_program.specs.View.{plan_at}
use Rattle.cp_compile_symbols.specs.declared.systems.SystemTable.{SystemTable}
use Rattle.cp_compile_symbols.specs.declared.tables.Tables.{Tables}
use Rattle.cp_compile_symbols.proofs.SystemsMade.{has_table}
use Rattle.cp_compile_symbols.specs.Variables.{AreDeclared, declared_entry}
use Rattle.cp_compile_emit.specs.ComponentPlans.{ArePlans, table_fits}
use Rattle.cp_compile_emit.specs.Planning.{known_of}
use Rattle.cp_compile_emit.proofs.ComponentsPlanned.{all_components, get_inside, one_component}
use Rattle.cp_compile_emit.proofs.PlansKept.{extends_on, knows_kept, number_there, plan_kept}
use Rattle.cp_compile_emit.proofs.plan.Planner.add_components.Goals as goal

pub returns-in_err-add_component-clause-knows : goal.returns-in_err-add_component-clause-knows
returns-in_err-add_component-clause-knows c = λ g knows.
    c.in_err-add_component.ensures.knows g
    (knows_kept c.args.self.now c.loop-table.self g c.loop-table.invariant.extends (ap (λ v. v.items) c.loop-table.invariant.types) knows)

pub returns-clause-knows : goal.returns-clause-knows
returns-clause-knows c = λ g knows.
    knows_kept c.args.self.now c.loop-table.self g c.loop-table.invariant.extends (ap (λ v. v.items) c.loop-table.invariant.types) knows

pub loop-table-preserved : goal.loop-table-preserved
loop-table-preserved c =
    let start = c.args.self.now in
    let old = c.loop-table.self in
    let new = c.add_component.new.self in
    let first = length start.plans.items in
    let count = c.loop-table.count in
    let so_far = c.loop-table.invariant in
    let one = c.in_ok-add_component.ensures in
    let many : length old.plans.items ≡ first + count = so_far.count in
    let room : (t : SystemTable) → t ≡ c.in-Some.table.now → table_fits t ≡ true → c.has_room.result ≡ true =
    λ t same fits. c.has_room.ensures ∙ ap table_fits (sym same) ∙ fits in
    record {
      extends = extends_on start old new so_far.extends one.extends;
      types = one.types ∙ so_far.types;
      count = omega (arith, one.added, many);
      plans = λ g knows systems.
          let known = knows_kept start old g so_far.extends (ap (λ v. v.items) so_far.types) knows in
          one_component count g start.tables.now (known_of old) (known_of new) first
          (λ n less. plan_kept old new n one.extends (number_there old n (omega (arith, many, less))))
          (λ y t here there fits.
          let table = c.in-Some.table.now in
          let found : slice_get old.tables.now.systems.items count ≡ Some table = sym c.table.ensures ∙ ap (option_map (λ (b : Bor SystemTable). b.now)) c.in-Some.is in
          let same : t ≡ table =
          same_Some t table (sym there ∙ ap (λ (b : Bor Tables). slice_get b.now.systems.items count) (sym so_far.extends.tables_are) ∙ found) in
          let represents = has_table g start.tables.now.types start.tables.now.systems.items count y t systems here there in
          let s = erase.system (tree_view.system y.now) in
          let made = (rw (c.deref.ensures.value, c.deref-in-Some.ensures.value) at one.plan) g s known (room t same fits) in
          let own =
          made
          (subst (λ (b : Bor Tables). AreDeclared b.now.types (map declared_entry table.parameters.items) (declarations g s.parameters)) (sym so_far.extends.tables_are)
          (subst (λ (z : SystemTable). AreDeclared start.tables.now.types (map declared_entry z.parameters.items) (declarations g s.parameters)) same represents.parameters))
          (subst (λ (b : Bor Tables). AreDeclared b.now.types (map declared_entry table.variables.items) (declarations g s.variables)) (sym so_far.extends.tables_are)
          (subst (λ (z : SystemTable). AreDeclared start.tables.now.types (map declared_entry z.variables.items) (declarations g s.variables)) same represents.variables)) in
          ap (plan_at (known_of new)) (sym (one.number ∙ many)) ∙ own)
          (so_far.plans g knows systems);
    }

pub returns-clause-plans : goal.returns-clause-plans
returns-clause-plans c = λ g knows systems.
    let start = c.args.self.now in
    let found : slice_get c.loop-table.self.tables.now.systems.items c.loop-table.count ≡ None = search rules in
    let none = ap (λ (b : Bor Tables). slice_get b.now.systems.items c.loop-table.count) (sym c.loop-table.invariant.extends.tables_are) ∙ found in
    let number : length start.plans.items ≡ c.in_ok-first.first = search rules in
    subst (ArePlans g start.tables.now (known_of c.loop-table.self)) number
    (all_components c.loop-table.count g start.tables.now (known_of c.loop-table.self) (length start.plans.items) none (c.loop-table.invariant.plans g knows systems))

pub loop-table-smaller : goal.loop-table-smaller
loop-table-smaller c =
    let old = c.loop-table.self in
    let new = c.add_component.new.self in
    let table = c.in-Some.table.now in
    let found : slice_get old.tables.now.systems.items c.loop-table.count ≡ Some table = sym c.table.ensures ∙ ap (option_map (λ (b : Bor SystemTable). b.now)) c.in-Some.is in
    let less = get_inside old.tables.now.systems.items c.loop-table.count table found in
    let same : length new.tables.now.systems.items ≡ length old.tables.now.systems.items =
    ap (λ (b : Bor Tables). length b.now.systems.items) c.in_ok-add_component.ensures.extends.tables_are in
    omega (arith, less, same)
