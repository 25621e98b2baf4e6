-- When the code emits for a statement what the compiler's definition emits.
use Rattle.std.specs.Prelude.{◌≡◌, ℕ, List, map}
use Rattle.cp_model.specs.Abstract as a
use Rattle.cp_model_program.specs.CodedStatements.{Emitted, EmittedArms, emitted, emitted_arms}
use Rattle.cp_model_program.specs.Scopes as code
use Rattle.cp_compile_emit.specs.Emission.{Emits, place_of}
use Rattle.cp_compile_emit.specs.declared.emitter.Emitter.{Emitter}
use Rattle.cp_compile_symbols.specs.declared.scope.Scope.{Scope}
use Rattle.cp_compile_symbols.specs.Scopes.{IsScope}
use Rattle.cp_program.specs.Labels.{arm}
use Rattle.cp_program.specs.declared.arm.Arm.{Arm}

-- The operations of `e` are emitted, and `place` is where they are entered.
pub record Enters (old new : Emitter) (place : ℕ) (e : Emitted) : Type 0 where
  pub entry : place ≡ e.entry
  pub emits : Emits old new e.operations

-- What is emitted for the statement `st`, in each scope that has this table.
abbrev pub StatementOf : Scope → Emitter → Emitter → a.Statement → ℕ → ℕ → ℕ → Type 0
StatementOf scope old new st low next place =
    (s : code.Scope) → IsScope scope s → Enters old new place (emitted s st low (place_of old) next)

-- The operations of the arms of a `case` are emitted, and `arms` has their labels.
pub record ArmsEnter (old new : Emitter) (arms : List Arm) (e : EmittedArms) : Type 0 where
  pub labels : map arm arms ≡ e.arms
  pub emits : Emits old new e.operations

abbrev pub ArmsOf : Scope → Emitter → Emitter → a.Arms → ℕ → ℕ → List Arm → Type 0
ArmsOf scope old new as' low next arms =
    (s : code.Scope) → IsScope scope s → ArmsEnter old new arms (emitted_arms s as' low (place_of old) next)
