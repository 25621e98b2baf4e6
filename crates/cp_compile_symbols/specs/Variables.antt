-- Declared parameters and variables: when a list of entries represents what groups declare.
use Rattle.std.specs.Prelude.{◌≡◌, Bool, false, ℕ, List, [], ◌∷◌, is_some, map}
use Rattle.cp_model.specs.Abstract.{Name}
use Rattle.cp_model.specs.Declarations.{Variable, declarations, declared_group}
use Rattle.cp_model.specs.Erase as erase
use Rattle.cp_model.specs.View as view
use Rattle.cp_model.specs.Types.{GlobalScope}
use Rattle.cp_model.specs.declared.tree.Fields.{Fields}
use Rattle.cp_model.specs.declared.tree.Identifier.{Identifier}
use Rattle.cp_model.specs.declared.tree.Parameters.{Parameters}
use Rattle.cp_compile_symbols.specs.declared.variables.Declared.{Declared}
use Rattle.cp_compile_symbols.specs.declared.names.Names.{Names}
use Rattle.cp_compile_symbols.specs.declared.types.Types.{Types}
use Rattle.cp_compile_symbols.specs.Representing.{MakesList, Represents, name_type, type_from}

-- A name, whether it is a `var` parameter, and the number of its type.
abbrev pub Entry : Type 0
Entry = Name × (Bool × ℕ)

abbrev pub declared_entry : Declared → Entry
declared_entry d = (d.name.now, (d.by_reference, d.of))

abbrev pub declared_entries : List Identifier → Bool → ℕ → List Entry
declared_entries xs r n = map (λ x. (x.name, (r, n))) xs

-- The entries represent these variables, one by one.
abbrev pub AreDeclared : Types → List Entry → List (Name × Variable) → Type 0
AreDeclared types [] [] = Unit {0}
AreDeclared types (d ∷ ds) (v ∷ vs) = (d.0 ≡ v.0) × (d.1.0 ≡ v.1.by_reference) × Represents types d.1.1 v.1.type × AreDeclared types ds vs
AreDeclared types _ _ = ⊥

abbrev pub Declares : Names → Types → Types → List Entry → List Entry → (GlobalScope → List (Name × Variable) → List (Name × Variable)) → Type 0
Declares = MakesList AreDeclared

-- ---- Groups before other declarations

abbrev pub with_declared_parameter : Parameters → GlobalScope → List (Name × Variable) → List (Name × Variable)
with_declared_parameter p g vs = declared_group (is_some p.by_reference) (name_type p.of.name g) (map erase.name p.names.items) vs

abbrev pub with_declared_parameters : List Parameters → GlobalScope → List (Name × Variable) → List (Name × Variable)
with_declared_parameters [] g vs = vs
with_declared_parameters (p ∷ ps) g vs = with_declared_parameter p g (with_declared_parameters ps g vs)

abbrev pub with_declared_group : Fields → GlobalScope → List (Name × Variable) → List (Name × Variable)
with_declared_group f g vs = declared_group false (type_from f.of g) (map erase.name f.names.items) vs

abbrev pub with_declared_groups : List Fields → GlobalScope → List (Name × Variable) → List (Name × Variable)
with_declared_groups [] g vs = vs
with_declared_groups (f ∷ fs) g vs = with_declared_group f g (with_declared_groups fs g vs)

-- ---- What the text declares

abbrev pub parameters_of : GlobalScope → List Parameters → List (Name × Variable)
parameters_of g groups = declarations g (map erase.parameter_group (map view.parameters groups))

abbrev pub variables_of : GlobalScope → List Fields → List (Name × Variable)
variables_of g groups = declarations g (map erase.variable_group (map view.variables groups))
