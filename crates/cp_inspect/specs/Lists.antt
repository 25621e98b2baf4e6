-- The components of a sort among declared variables.
use Rattle.std.specs.Prelude.{◌≡◌, ◌++◌, if◌then◌else◌, ℕ, List, [], ◌∷◌, filter}
use Rattle.cp_model.specs.Abstract.{Name, Sort}
use Rattle.cp_model.specs.Components.{is_component_of}
use Rattle.cp_model.specs.Declarations.{Variable}
use Rattle.cp_model.specs.Types.{ResolvedType}
use Rattle.cp_compile_symbols.specs.Representing.{Represents}
use Rattle.cp_compile_symbols.specs.Variables.{AreDeclared, Entry}
use Rattle.cp_compile_symbols.specs.declared.types.Types.{Types}
use Rattle.cp_compile_symbols.specs.declared.variables.Declared.{Declared}

-- Each name with the number of a type represents one of the variables, in order.
abbrev pub AreListed : Types → List (Name × ℕ) → List (Name × Variable) → Type 0
AreListed types [] [] = Unit {0}
AreListed types (e ∷ es) (v ∷ vs) = (e.0 ≡ v.0) × Represents types e.1 v.1.type × AreListed types es vs
AreListed types _ _ = ⊥

-- A variable is added if it is a component of the sort.
abbrev pub Picks : Types → Sort → Entry → List (Name × ℕ) → List (Name × ℕ) → Type 0
Picks types z d before after =
    (t : ResolvedType) → Represents types d.1.1 t → after ≡ (if is_component_of z t then before ++ (d.0, d.1.1) ∷ [] else before)

-- The list has the components of the sort among the declared variables.
abbrev pub Lists : Types → Sort → List Entry → List (Name × ℕ) → Type 0
Lists types z ds es = (vs : List (Name × Variable)) → AreDeclared types ds vs → AreListed types es (filter (λ v. is_component_of z v.1.type) vs)

-- The name of a declared variable, and the number of its type.
abbrev pub declared_member : Declared → Name × ℕ
declared_member d = (d.name.now, d.of)
