use Rattle.std.proofs.Common.{◌≡◌, ◌+◌, ◌-◌, length}
use Rattle.cp_model.specs.Types.{GlobalScope}
use Rattle.cp_compile_symbols.specs.Texts.{AreSystems}
use Rattle.cp_compile_emit.specs.Planning.{Extends, Knows, known_of, types_of}
use Rattle.cp_compile_emit.proofs.ComponentsPlanned.{ArePlansUntil}
use Rattle.cp_compile_emit.proofs.plan.Planner.add_components.Given as goal

-- The system types so far have their plans.
abbrev pub invariant-loop-table : goal.invariant-loop-table
invariant-loop-table l = record {
  extends : Extends l.fn.self l.self;
  types : l.self.types ≡ l.fn.self.types;
  count : length l.self.plans.items ≡ length l.fn.self.plans.items + l.count;
  plans : (g : GlobalScope) → Knows l.fn.self g → AreSystems g (types_of l.fn.self) l.fn.self.tables.now.systems.items
      → ArePlansUntil l.count g l.fn.self.tables.now (known_of l.self) (length l.fn.self.plans.items);
}

abbrev pub decreases-loop-table : goal.decreases-loop-table
decreases-loop-table l = length l.self.tables.now.systems.items - l.count
