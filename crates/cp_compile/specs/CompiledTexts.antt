-- When the definitions of a text are compiled with the right tables, and what has been compiled so
-- far.
use Rattle.std.specs.Prelude.{◌≡◌, ℕ, List, [], ◌∷◌, Option, None, Some}
use Rattle.cp_model.specs.Abstract as a
use Rattle.cp_model.specs.Abstract.{Definition, Name, System}
use Rattle.cp_model.specs.Names.{lookup}
use Rattle.cp_model.specs.Types.{ComponentOf, GlobalScope, Members}
use Rattle.cp_model_program.specs.Compile.{CompiledTypes, with_definition, with_definitions}
use Rattle.cp_model_program.specs.Programs.{StartPlan}
use Rattle.cp_compile_emit.specs.declared.emitter.Emitter.{Emitter}
use Rattle.cp_compile_emit.specs.Planning.{Knows, known_of}
use Rattle.cp_compile_symbols.specs.Layouts.{EachIsLaid}
use Rattle.cp_compile_symbols.specs.Numbering.{system_of}
use Rattle.cp_compile_symbols.specs.Representing.{ScopeRepresents, row_at}
use Rattle.cp_compile_symbols.specs.Texts.{AreSystems}
use Rattle.cp_compile_symbols.specs.declared.tables.Tables.{Tables}
use Rattle.cp_compile.specs.declared.definitions.TextCompiler.{TextCompiler}
use Rattle.cp_compile.specs.Compiles.{IsCompiled}

-- The tables represent the text with the outermost scope `g`.
pub record IsText (of : TextCompiler) (g : GlobalScope) : Type 0 where
  pub names : ScopeRepresents of.tables.now.names of.tables.now.types g
  pub laid : EachIsLaid g of.tables.now.types of.tables.now.layouts.rows.items
  pub systems : AreSystems g of.tables.now.types of.tables.now.systems.items
  pub planned : of.planner.now.tables.now ≡ of.tables.now
  pub knows : Knows of.planner.now g

-- The emitter and the first units are those of `m`, which has been compiled so far.
pub record TypesAre (known : List StartPlan) (emitter : Emitter) (firsts : List (Name × ℕ)) (m : CompiledTypes) : Type 0 where
  pub compiled : IsCompiled known emitter m.compiled
  pub firsts_are : (x : Name) → lookup x firsts ≡ lookup x m.firsts

-- ---- System types

abbrev pub number_of : Tables → Option ℕ → Option ℕ
number_of t None = None
number_of t (Some of) = system_of (row_at t.types of)

abbrev pub system_number : Tables → Name → Option ℕ
system_number t x = number_of t (lookup x t.names.types)

-- ---- Definitions

-- In the scope of the whole text, the name of a system type means that type.
abbrev pub IsNamed : GlobalScope → Definition → Type 0
IsNamed g (a.SystemDef x s) = (ms : Members) × (lookup x g.types ≡ Some (ComponentOf s ms))
IsNamed g d = Unit {0}

abbrev pub AreNamed : GlobalScope → List Definition → Type 0
AreNamed g [] = Unit {0}
AreNamed g (d ∷ ds) = IsNamed g d × AreNamed g ds

abbrev pub defined_name : Definition → Name
defined_name (a.SystemDef x s) = x
defined_name (a.TypeDef x t) = x
defined_name (a.EnumDef x vs) = x
defined_name (a.ConstantDef x c) = x

-- The definition of a type is compiled, and `first` is the first unit of the type.
pub record IsDefined (known : List StartPlan) (emitter : Emitter) (first : ℕ) (d : Definition) (before after : CompiledTypes) : Type 0 where
  pub compiled : IsCompiled known emitter after.compiled
  pub firsts : after.firsts ≡ (defined_name d, first) ∷ before.firsts

-- ---- What a compiler makes of an emitter and of the first units, the old ones into the new ones

-- It compiles what the definition defines, whose first unit is `first`.
abbrev pub DefinesType : TextCompiler → Emitter → Emitter → List (Name × ℕ) → Definition → ℕ → Type 0
DefinesType of old new firsts d first =
    (g : GlobalScope) (m : CompiledTypes) → IsText of g → IsNamed g d → TypesAre (known_of of.planner.now) old firsts m
    → IsDefined (known_of of.planner.now) new first d m (with_definition g d m)

abbrev pub CompilesOne : TextCompiler → Emitter → Emitter → List (Name × ℕ) → List (Name × ℕ) → Definition → Type 0
CompilesOne of old new before after d =
    (g : GlobalScope) (m : CompiledTypes) → IsText of g → IsNamed g d → TypesAre (known_of of.planner.now) old before m
    → TypesAre (known_of of.planner.now) new after (with_definition g d m)

abbrev pub CompilesAll : TextCompiler → Emitter → Emitter → List (Name × ℕ) → List (Name × ℕ) → List Definition → Type 0
CompilesAll of old new before after ds =
    (g : GlobalScope) (m : CompiledTypes) → IsText of g → AreNamed g ds → TypesAre (known_of of.planner.now) old before m
    → TypesAre (known_of of.planner.now) new after (with_definitions g ds m)
