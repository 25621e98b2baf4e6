-- When an emitter holds what the definition has compiled.
use Rattle.std.specs.Prelude.{◌≡◌, ◌⊎◌, ◌++◌, ◌∷◌, [], ℕ, List, map}
use Rattle.cp_model.specs.Abstract as a
use Rattle.cp_model.specs.Erase as erase
use Rattle.cp_model.specs.View as tree
use Rattle.cp_model.specs.declared.tree.Statement.{Statement}
use Rattle.cp_model_program.specs.Compile.{Compiled}
use Rattle.cp_model_program.specs.Programs.{StartPlan}
use Rattle.cp_compile_emit.specs.declared.emitter.Emitter.{Emitter}
use Rattle.cp_compile_emit.specs.Emission.{Continues, operations_of, units_of}

-- The emitter has the operations and units of `c`. The plans `known` are those of the planner.
pub record IsCompiled (known : List StartPlan) (emitter : Emitter) (c : Compiled) : Type 0 where
  pub operations : operations_of emitter ≡ c.operations
  pub units : units_of known emitter ≡ c.units

-- A unit is added whose last operation comes from the place `at` of the text.
abbrev pub AddsUnit : ℕ → List ℕ → List ℕ → Type 0
AddsUnit at old new = Continues (old ++ at ∷ []) new

-- The same, or a unit without code is added.
abbrev pub MayAdd : ℕ → List ℕ → List ℕ → Type 0
MayAdd at old new = (old ≡ new) ⊎ AddsUnit at old new

-- Units are added, of which the last one's last operation comes from the place `at`.
abbrev pub EndsAt : ℕ → List ℕ → List ℕ → Type 0
EndsAt at old new = (middle : List ℕ) × Continues old middle × MayAdd at middle new

abbrev pub body_of : List Statement → a.Statement
body_of list = erase.statements (tree.statements_of (map tree.statement list))
