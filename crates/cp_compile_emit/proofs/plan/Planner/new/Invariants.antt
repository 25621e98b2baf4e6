use Rattle.std.proofs.Common.{◌≡◌, ◌-◌, length}
use Rattle.cp_model.specs.Types.{GlobalScope}
use Rattle.cp_compile_symbols.specs.Layouts.{AreLaid}
use Rattle.cp_compile_symbols.specs.Representing.{ScopeRepresents}
use Rattle.cp_compile_emit.specs.Planning.{Knows}
use Rattle.cp_compile_emit.proofs.plan.Planner.new.Given as goal

-- The types so far have their plans.
abbrev pub invariant-loop-planner : goal.invariant-loop-planner
invariant-loop-planner l = record {
  tables : l.planner.tables ≡ l.initial.planner.tables;
  knows : (g : GlobalScope) → ScopeRepresents l.planner.tables.now.names l.planner.tables.now.types g
      → AreLaid g l.planner.tables.now.types l.planner.tables.now.layouts.rows.items → Knows l.planner g;
}

abbrev pub decreases-loop-planner : goal.decreases-loop-planner
decreases-loop-planner l = length l.planner.tables.now.types.rows.items - length l.planner.types.items
