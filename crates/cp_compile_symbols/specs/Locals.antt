-- When a table is right about where the parameters and variables of a routine are.
use Rattle.std.specs.Prelude.{◌≡◌, ◌+◌, ℕ, List, Option, None, Some}
use Rattle.cp_model.specs.Abstract.{Name}
use Rattle.cp_model.specs.Declarations.{Variable}
use Rattle.cp_model.specs.Names.{lookup}
use Rattle.cp_model.specs.Types.{GlobalScope}
use Rattle.cp_model_program.specs.Layout.{local_at, locals_words}
use Rattle.cp_compile_symbols.specs.declared.layout.Layout.{Layout}
use Rattle.cp_compile_symbols.specs.declared.locals.Local.{Local}
use Rattle.cp_compile_symbols.specs.declared.locals.Locals.{Locals}
use Rattle.cp_compile_symbols.specs.declared.types.Types.{Types}
use Rattle.cp_compile_symbols.specs.Layouts.{AreLaid, Counts}
use Rattle.cp_compile_symbols.specs.Representing.{Represents}
use Rattle.cp_compile_symbols.specs.Variables.{AreDeclared, Entry}

-- The place, the kind (`var` parameter or not) and the type of a variable, if there is one.
abbrev pub LocalIs : Types → Option Local → Option (ℕ × Variable) → Type 0
LocalIs types None None = Unit {0}
LocalIs types (Some l) (Some q) = Counts l.at q.0 × (l.by_reference ≡ q.1.by_reference) × Represents types l.of q.1.type
LocalIs types _ _ = ⊥

-- The layout of the variables `vs`, the first of which is `at` words from the start of the
-- activation.
pub record LocalsLie (g : GlobalScope) (types : Types) (at : ℕ) (vs : List (Name × Variable)) (l : Locals) : Type 0 where
  pub words : Counts l.words (at + locals_words g vs)
  pub names : (x : Name) → LocalIs types (lookup x l.names) (local_at g at vs x)

abbrev pub LaysLocals : List Layout → List Entry → Option ℕ → Locals → Type 0
LaysLocals layouts entries head l =
    (g : GlobalScope) (types : Types) (at : ℕ) (vs : List (Name × Variable)) → AreLaid g types layouts → AreDeclared types entries vs → Counts head at
    → LocalsLie g types at vs l
