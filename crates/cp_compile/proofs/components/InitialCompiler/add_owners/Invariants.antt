use Rattle.std.proofs.Common.{◌++◌, ℕ, List, drop, map}
use Rattle.cp_model.specs.Abstract.{Group, Name}
use Rattle.cp_model.specs.Declarations.{Variable}
use Rattle.cp_model.specs.Erase as erase
use Rattle.cp_model.specs.Types.{GlobalScope}
use Rattle.cp_model_program.specs.Compile as code
use Rattle.cp_model_program.specs.Compile.{of_sort, owners_of}
use Rattle.cp_compile_symbols.specs.Variables.{declared_entry}
use Rattle.cp_model_program.specs.Programs.{StartPlan}
use Rattle.cp_compile.specs.CompiledComponents.{AreOwners, IsInitial}
use Rattle.cp_compile.proofs.ComponentsCompiled.{PartlyOwned}
use Rattle.cp_compile.proofs.components.InitialCompiler.add_owners.Given as goal

-- The owners so far and those of the remaining variables are all owners.
abbrev pub invariant-loop-d : goal.invariant-loop-d
invariant-loop-d l =
    (plans : List StartPlan) (g : GlobalScope) (firsts : List (Name × ℕ)) (groups : List Group) (vs : List (Name × Variable)) (before : List code.Owner)
    → IsInitial l.self plans g firsts groups vs → AreOwners plans g l.fn.owners.items before
    → PartlyOwned plans g l.self.tables.now.types firsts groups (erase.sort_of l.sort)
    (map declared_entry (drop l.d-index l.d-items)) (before ++ owners_of firsts groups (of_sort (erase.sort_of l.sort) vs)) l.owners.items
