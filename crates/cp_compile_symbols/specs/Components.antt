-- When a table is right about where the members and rights of a component are.
use Rattle.std.specs.Prelude.{◌≡◌, ◌++◌, ◌∷◌, if◌then◌else◌, ℕ, suc, List, [], Option, None, Some, filter}
use Rattle.cp_model.specs.Abstract.{Name}
use Rattle.cp_model.specs.Declarations.{Variable, is_component, members_from}
use Rattle.cp_model.specs.Names.{lookup}
use Rattle.cp_model.specs.Types.{GlobalScope, Members, NoMembers}
use Rattle.cp_model.specs.declared.tree.Fields.{Fields}
use Rattle.cp_model.specs.declared.tree.Parameters.{Parameters}
use Rattle.cp_model_program.specs.Layout.{right_at}
use Rattle.cp_compile_symbols.specs.declared.components.Right.{Right}
use Rattle.cp_compile_symbols.specs.declared.layout.Layout.{Layout}
use Rattle.cp_compile_symbols.specs.declared.names.Names.{Names}
use Rattle.cp_compile_symbols.specs.declared.types.Types.{Types}
use Rattle.cp_compile_symbols.specs.Layouts.{AreLaid, MembersLie, rights_of}
use Rattle.cp_compile_symbols.specs.Routines.{Builds}
use Rattle.cp_compile_symbols.specs.Representing.{Grows, ScopeRepresents, Represents, with_parameters}
use Rattle.cp_compile_symbols.specs.Variables.{AreDeclared, Entry, variables_of}

-- `after` is `before` with `d` appended if `d` is a component, and `before` itself otherwise.
abbrev pub Picks : Types → Entry → List Entry → List Entry → Type 0
Picks types d before after = (v : Variable) → Represents types d.1.1 v.type → after ≡ (if is_component v.type then before ++ d ∷ [] else before)

-- If `list` represents the variables `vs`, then `picked` represents the components among them.
abbrev pub PicksComponents : Types → List Entry → List Entry → Type 0
PicksComponents types list picked =
    (vs : List (Name × Variable)) → AreDeclared types list vs → AreDeclared types picked (filter (λ v. is_component v.1.type) vs)

abbrev pub RightIs : Types → Option Right → Option (ℕ × Variable) → Type 0
RightIs types None None = Unit {0}
RightIs types (Some r) (Some q) = (r.at ≡ q.0) × Represents types r.of q.1.type
RightIs types _ _ = ⊥

-- The rights are one after another from word 1 on, after the mark.
abbrev pub RightsLie : Types → List Entry → List (Name × Right) → Type 0
RightsLie types list rights = (vs : List (Name × Variable)) → AreDeclared types list vs → (x : Name) → RightIs types (lookup x rights) (right_at 1 vs x)

-- The own members of a component with these parameters and variables, without its rights.
abbrev pub own_members : GlobalScope → List Parameters → List Fields → Members
own_members g ps vs = with_parameters ps g (members_from (variables_of g vs) NoMembers)

-- More types and layouts are made, and `l` lays out a component's own members, after the mark and
-- the rights.
pub record MakesComponent (names : Names) (old new : Types) (before after : List Layout) (ps : List Parameters) (vs : List Fields) (l : Layout) : Type 0 where
  pub builds : Builds names old new before after
  pub lies : (g : GlobalScope) (later : Types) → ScopeRepresents names old g → AreLaid g old before → Grows new later
      → MembersLie g later (suc (rights_of g ps)) (own_members g ps vs) l
