-- When monitors and processes are those of the definition.
use Rattle.std.specs.Prelude.{◌≡◌, true, ℕ, List, [], ◌∷◌, map}
use Rattle.cp_model.specs.Abstract.{Group, Name, System}
use Rattle.cp_model.specs.Declarations.{Variable}
use Rattle.cp_model.specs.Names.{lookup}
use Rattle.cp_model.specs.Types.{GlobalScope}
use Rattle.cp_model.specs.declared.tree.Fields.{Fields}
use Rattle.cp_model.specs.declared.tree.Parameters.{Parameters}
use Rattle.cp_model.specs.declared.tree.Routine as tree_routine
use Rattle.cp_model_program.specs.Compile as code
use Rattle.cp_model_program.specs.Compile.{owner_before, waiting_words}
use Rattle.cp_model_program.specs.Layout.{component_words}
use Rattle.cp_model_program.specs.Plans.{plan_of_component}
use Rattle.cp_model_program.specs.Programs.{StartPlan}
use Rattle.cp_compile_symbols.specs.declared.systems.SystemTable.{SystemTable}
use Rattle.cp_compile_symbols.specs.declared.types.Types.{Types}
use Rattle.cp_compile_symbols.specs.Scopes.{IsWritten}
use Rattle.cp_compile_symbols.specs.Systems.{SystemRepresents}
use Rattle.cp_compile_symbols.specs.Texts.{AreSystems}
use Rattle.cp_compile_symbols.specs.TypeNames.{AreTypeNames}
use Rattle.cp_compile_symbols.specs.Variables.{AreDeclared, declared_entry}
use Rattle.cp_program.specs.View.{plan_at}
use Rattle.cp_compile_emit.specs.ComponentPlans.{ArePlans, table_fits}
use Rattle.cp_compile.specs.declared.components.InitialCompiler.{InitialCompiler}
use Rattle.cp_compile.specs.declared.components.Owner.{Owner}

-- ---- Owners

pub record OwnerIs (plans : List StartPlan) (g : GlobalScope) (o : Owner) (x : code.Owner) : Type 0 where
  pub body : o.body ≡ x.body
  pub words : o.words ≡ component_words g x.system
  pub waiting : o.waiting ≡ waiting_words g x.system
  pub plan : plan_at plans o.plan ≡ plan_of_component g x.system

abbrev pub AreOwners : List StartPlan → GlobalScope → List Owner → List code.Owner → Type 0
AreOwners plans g [] [] = Unit {0}
AreOwners plans g (o ∷ os) (x ∷ xs) = OwnerIs plans g o x × AreOwners plans g os xs
AreOwners plans g _ _ = ⊥

-- `o` is the component with this body of the system type of this table, provided that plan number
-- `plan` is that of the system type if it has room.
abbrev pub IsOwner : SystemTable → ℕ → ℕ → Owner → Type 0
IsOwner table body plan o =
    (plans : List StartPlan) (g : GlobalScope) (types : Types) (s : System)
    (ps : List Parameters) (vs : List Fields) (rs : List tree_routine.Routine)
    → SystemRepresents g types table ps vs rs → IsWritten s ps vs rs → (table_fits table ≡ true → plan_at plans plan ≡ plan_of_component g s)
    → OwnerIs plans g o (record { system = s; body = body })

-- The component that the variable `v` is, in the definition, is `o`.
abbrev pub PutsOwner : List StartPlan → GlobalScope → List (Name × ℕ) → List Group → Name × Variable → Owner → Type 0
PutsOwner plans g firsts groups v o =
    (x : code.Owner) × ((rest : List code.Owner) → owner_before firsts groups v rest ≡ x ∷ rest) × OwnerIs plans g o x

-- ---- The initial process

-- The tables represent the text, and its initial process declares the variables `vs`. From number
-- `of.plans` on, the plans are those of the system types.
pub record IsInitial (of : InitialCompiler) (plans : List StartPlan) (g : GlobalScope) (firsts : List (Name × ℕ))
    (groups : List Group) (vs : List (Name × Variable))
    : Type 0 where
  pub systems : AreSystems g of.tables.now.types of.tables.now.systems.items
  pub declared : AreDeclared of.tables.now.types (map declared_entry of.tables.now.initial.variables.items) vs
  pub type_names : AreTypeNames of.tables.now.initial.variable_types groups
  pub firsts_are : (x : Name) → lookup x of.firsts.now ≡ lookup x firsts
  pub planned : ArePlans g of.tables.now plans of.plans
