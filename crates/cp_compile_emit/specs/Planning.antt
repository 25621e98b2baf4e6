-- When a planner knows the types of a text, and how it grows.
use Rattle.std.specs.Prelude.{◌≡◌, ◌<◌, ◌++◌, true, false, ℕ, List, Some, length, slice_get}
use Rattle.cp_model.specs.Types.{GlobalScope, ResolvedType}
use Rattle.cp_model_program.specs.Plans as text
use Rattle.cp_model_program.specs.Plans.{plan}
use Rattle.cp_model_program.specs.Programs as code
use Rattle.cp_program.specs.View.{plan_at, plans_in}
use Rattle.cp_program.specs.declared.program.StartPlan.{StartPlan}
use Rattle.cp_compile_symbols.specs.declared.types.Types.{Types}
use Rattle.cp_compile_symbols.specs.Layouts.{AreLaid}
use Rattle.cp_compile_symbols.specs.Representing.{ScopeRepresents, Represents}
use Rattle.cp_compile_emit.specs.declared.plan.Placed.{Placed}
use Rattle.cp_compile_emit.specs.declared.plan.Planner.{Planner}
use Rattle.cp_compile_emit.specs.declared.plan.TypePlans.{TypePlans}

abbrev pub types_of : Planner → Types
types_of p = p.tables.now.types

-- The plans so far.
abbrev pub known_of : Planner → List code.StartPlan
known_of p = plans_in p.plans.items

abbrev pub placed_in : List code.StartPlan → Placed → text.Placed
placed_in known p = record { at = p.at; size = p.size; plan = plan_at known p.plan }

-- These are the numbers of the plans of a type.
pub record ArePlanned (known : List code.StartPlan) (g : GlobalScope) (p : TypePlans) (t : ResolvedType) : Type 0 where
  pub plain_there : p.plain < length known
  pub zeroed_there : p.zeroed < length known
  pub plain : plan_at known p.plain ≡ plan false g t
  pub zeroed : plan_at known p.zeroed ≡ plan true g t

-- The tables of the planner are right for this outermost scope, and so are the plans of the types
-- that it has numbers for.
pub record Knows (p : Planner) (g : GlobalScope) : Type 0 where
  pub scope : ScopeRepresents p.tables.now.names (types_of p) g
  pub laid : AreLaid g (types_of p) p.tables.now.layouts.rows.items
  pub planned : (n : ℕ) (numbers : TypePlans) (t : ResolvedType) → slice_get p.types.items n ≡ Some (Some numbers)
      → Represents (types_of p) n t → ArePlanned (known_of p) g numbers t

-- Plans may have been added.
pub record Extends (old new : Planner) : Type 0 where
  pub tables_are : new.tables ≡ old.tables
  pub added : List StartPlan
  pub plans_are : new.plans.items ≡ old.plans.items ++ added
