-- When layouts are right about the sizes of types and where their members are.
use Rattle.std.specs.Prelude.{◌≡◌, ℕ, List, [], ◌∷◌, Option, None, Some, filter, if◌then◌else◌, length, map, slice_get, ◌+◌, ◌≤◌, ◌<◌}
use Rattle.cp_model.specs.Abstract.{Name}
use Rattle.cp_model.specs.Declarations.{declarations, is_component}
use Rattle.cp_model.specs.Erase as erase
use Rattle.cp_model.specs.View as view
use Rattle.cp_model.specs.Locations.{ByName}
use Rattle.cp_model.specs.Names.{lookup}
use Rattle.cp_model.specs.Types.{ComponentOf, GlobalScope, Members, ResolvedType}
use Rattle.cp_model.specs.declared.tree.Parameters.{Parameters}
use Rattle.cp_law_typing.specs.Words.{words, words_of_members}
use Rattle.cp_model_program.specs.Layout as code
use Rattle.cp_model_program.specs.Layout.{member_part, most_words}
use Rattle.cp_compile_symbols.specs.declared.layout.Layout.{Layout}
use Rattle.cp_compile_symbols.specs.declared.layout.Part.{Part}
use Rattle.cp_model.specs.declared.tree.System.{System}
use Rattle.cp_compile_symbols.specs.declared.names.Names.{Names}
use Rattle.cp_compile_symbols.specs.declared.types.TypeRow.{TypeRow}
use Rattle.cp_compile_symbols.specs.declared.types.Types.{Types}
use Rattle.cp_compile_symbols.specs.Representing.{AreMembers, Grows, ScopeRepresents, Represents, name_type, row_at}

-- A count is the number `n`, or `None`, which the code uses for a number that has no room.
abbrev pub Counts : Option ℕ → ℕ → Type 0
Counts None n = most_words < n
Counts (Some m) n = m ≡ n

abbrev pub PartIs : Types → Option Part → Option code.Part → Type 0
PartIs types None None = Unit {0}
PartIs types (Some p) (Some q) = Counts p.at q.0 × Represents types p.of q.1
PartIs types _ _ = ⊥

-- The layout is that of the type `t`.
pub record LayoutIs (g : GlobalScope) (types : Types) (l : Layout) (t : ResolvedType) : Type 0 where
  pub words : Counts l.words (words g t)
  pub parts : (x : Name) → PartIs types (lookup x l.parts) (code.part g t (ByName x ∷ []))

-- Each layout is that of the type with its number, even after types are added.
abbrev pub AreLaid : GlobalScope → Types → List Layout → Type 0
AreLaid g types layouts =
    (later : Types) → Grows types later → (n : ℕ) (l : Layout) (t : ResolvedType) → slice_get layouts n ≡ Some l → Represents later n t → LayoutIs g later l t

-- In addition, each type has a layout.
pub record EachIsLaid (g : GlobalScope) (types : Types) (layouts : List Layout) : Type 0 where
  pub laid : AreLaid g types layouts
  pub complete : length types.rows.items ≤ length layouts

-- The layout of the members `ms`, the first of which is `at` words from the first word.
pub record MembersLie (g : GlobalScope) (types : Types) (at : ℕ) (ms : Members) (l : Layout) : Type 0 where
  pub words : Counts l.words (at + words_of_members g ms)
  pub parts : (x : Name) → PartIs types (lookup x l.parts) (member_part g at ms x [])

abbrev pub LaysOut : List Layout → List (Name × ℕ) → Option ℕ → Layout → Type 0
LaysOut layouts members head l =
    (g : GlobalScope) (types : Types) (at : ℕ) (ms : Members) → AreLaid g types layouts → AreMembers types members ms → Counts head at
    → MembersLie g types at ms l

abbrev pub rights_of : GlobalScope → List Parameters → ℕ
rights_of g groups = length (filter (λ v. is_component v.1.type) (declarations g (map erase.parameter_group (map view.parameters groups))))

abbrev pub rights_among : GlobalScope → Parameters → ℕ
rights_among g p = if is_component (name_type p.of.name g) then length p.names.items else 0

-- `l` is the layout of a component of this system type, with these members.
abbrev pub LaysComponent : Names → Types → List Layout → System → List (Name × ℕ) → Layout → Type 0
LaysComponent names types layouts y members l =
    (g : GlobalScope) (later : Types) (ms : Members) → ScopeRepresents names types g → Grows types later → AreLaid g types layouts → AreMembers later members ms
    → LayoutIs g later l (ComponentOf (erase.system (view.system y)) ms)

-- `l` is the layout of the type that this row represents.
abbrev pub LaysRow : Names → Types → List Layout → TypeRow → Layout → Type 0
LaysRow names types layouts r l =
    (g : GlobalScope) (later : Types) (n : ℕ) (t : ResolvedType) → ScopeRepresents names types g → Grows types later → AreLaid g types layouts
    → row_at later n ≡ Some r → Represents later n t → LayoutIs g later l t
