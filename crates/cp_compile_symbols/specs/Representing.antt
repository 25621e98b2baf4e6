-- When type numbers, rows and names represent what the meaning of the text says.
use Rattle.std.specs.Prelude.{◌≡◌, ◌++◌, ℕ, ℤ, List, [], ◌∷◌, Option, None, Some, filter, if◌then◌else◌, map, not, option_map, slice_get, Vec}
use Rattle.std.specs.Global.{Global}
use Rattle.std.specs.Borrow.{Bor}
use Rattle.cp_model.specs.Abstract as a
use Rattle.cp_model.specs.Abstract.{Name, Range, TypeName}
use Rattle.cp_model.specs.Erase as erase
use Rattle.cp_model.specs.View as view
use Rattle.cp_model.specs.Names.{lookup}
use Rattle.cp_model.specs.Declarations.{declarations, is_component, members_from}
use Rattle.cp_model.specs.Types.{ArrayOf, ComponentOf, GlobalScope, Members, MoreMembers, NoMembers, NoType, Queue, RecordOf, ResolvedType, Simple, array_type, members_of, resolved_type, with_members}
use Rattle.cp_model.specs.declared.tree.Constant.{Constant}
use Rattle.cp_model.specs.declared.tree.Fields.{Fields}
use Rattle.cp_model.specs.declared.tree.Identifier.{Identifier}
use Rattle.cp_model.specs.declared.tree.Parameters.{Parameters}
use Rattle.cp_model.specs.declared.tree.System.{System}
use Rattle.cp_model.specs.declared.tree.TypeExpression.{TypeExpression}
use Rattle.cp_compile_symbols.specs.declared.types.Base.{Base}
use Rattle.cp_compile_symbols.specs.declared.types.Base.TheVariants as base
use Rattle.cp_compile_symbols.specs.declared.types.Simple as plain
use Rattle.cp_compile_symbols.specs.declared.types.Field.{Field}
use Rattle.cp_compile_symbols.specs.declared.types.TypeRow.{TypeRow}
use Rattle.cp_compile_symbols.specs.declared.types.TypeRow.TheVariants as row
use Rattle.cp_compile_symbols.specs.declared.types.Types.{Types}
use Rattle.cp_compile_symbols.specs.declared.names.Value.{Value}
use Rattle.cp_compile_symbols.specs.declared.names.Names.{Names}

-- ---- Types

abbrev pub base_of : Base → a.BaseType
base_of base.Integer = a.Integer
base_of base.Char = a.Char
base_of base.Boolean = a.Boolean
base_of (base.Enumeration name last) = a.Enumeration name.now last

abbrev pub simple_of : plain.Simple → ResolvedType
simple_of s = Simple (base_of s.base) s.low s.high s.start

abbrev pub row_at : Types → ℕ → Option TypeRow
row_at types n = slice_get types.rows.items n

abbrev pub system_at : Types → ℕ → Option (Bor System)
system_at types k = slice_get types.systems.items k

-- The name of a field and the number of its type.
abbrev pub entry : Field → Name × ℕ
entry f = (f.name.now, f.of)

-- Type number `n` represents this resolved type.
abbrev mutual
  pub Represents : Types → ℕ → ResolvedType → Type 0
  Represents types n (Simple b low high start) = (s : plain.Simple) × (row_at types n ≡ Some (row.Simple s)) × (simple_of s ≡ Simple b low high start)
  Represents types n (ArrayOf low high t) = (e : ℕ) × (row_at types n ≡ Some (row.Array low high e)) × Represents types e t
  Represents types n (RecordOf ms) = (fields : Vec Field Global) × (row_at types n ≡ Some (row.Record fields)) × AreMembers types (map entry fields.items) ms
  Represents types n Queue = row_at types n ≡ Some row.Queue
  Represents types n (ComponentOf s ms) =
      (k : ℕ) × (members : Vec Field Global) × (system : Bor System) × (row_at types n ≡ Some (row.Component k members))
      × (system_at types k ≡ Some system) × (erase.system (view.system system.now) ≡ s) × AreMembers types (map entry members.items) ms
  Represents types n NoType = row_at types n ≡ Some row.Unknown

  pub AreMembers : Types → List (Name × ℕ) → Members → Type 0
  AreMembers types [] NoMembers = Unit {0}
  AreMembers types (f ∷ fs) (MoreMembers x t ms) = (f.0 ≡ x) × Represents types f.1 t × AreMembers types fs ms
  AreMembers types _ _ = ⊥

-- Every number that had a row or a system type still has the same one.
pub record Keeps (old new : Types) : Type 0 where
  pub rows : (n : ℕ) (r : TypeRow) → row_at old n ≡ Some r → row_at new n ≡ Some r
  pub systems : (k : ℕ) (s : Bor System) → system_at old k ≡ Some s → system_at new k ≡ Some s

-- Types may have been added, and no system types.
pub record Grows (old new : Types) : Type 0 where
  pub rows : (n : ℕ) (r : TypeRow) → row_at old n ≡ Some r → row_at new n ≡ Some r
  pub systems : new.systems.items ≡ old.systems.items

-- A type is added and gets the number `n`.
pub record Adds (old new : Types) (r : TypeRow) (n : ℕ) : Type 0 where
  pub grows : Grows old new
  pub added : row_at new n ≡ Some r

pub record AddsSystem (old new : Types) (y : System) (k : ℕ) : Type 0 where
  pub keeps : Keeps old new
  pub system : Bor System
  pub added : system_at new k ≡ Some system
  pub is : system.now ≡ y

-- ---- Names

abbrev pub value_of : Value → a.BaseType × ℤ
value_of v = (base_of v.base, v.ordinal)

abbrev pub TypeMeans : Types → Option ℕ → Option ResolvedType → Type 0
TypeMeans types None None = Unit {0}
TypeMeans types (Some n) (Some t) = Represents types n t
TypeMeans types _ _ = ⊥

abbrev pub ConstantsRepresent : Names → GlobalScope → Type 0
ConstantsRepresent names g = (x : Name) → option_map value_of (lookup x names.constants) ≡ lookup x g.constants

-- The names represent those of the outermost scope `g`.
pub record ScopeRepresents (names : Names) (table : Types) (g : GlobalScope) : Type 0 where
  pub constants : ConstantsRepresent names g
  pub types : (x : Name) → TypeMeans table (lookup x names.types) (lookup x g.types)

-- ---- Making

-- Number `n` is made and represents `of g` in any scope `g` that the names represent. Older numbers
-- keep their meaning.
pub record Makes (names : Names) (old new : Types) (of : GlobalScope → ResolvedType) (n : ℕ) : Type 0 where
  pub grows : Grows old new
  pub represents : (g : GlobalScope) → ScopeRepresents names old g → Represents new n (of g)

-- Number `n` is made and represents the array type of any index and element types that the given
-- numbers represent.
pub record MakesArray (old new : Types) (index element n : ℕ) : Type 0 where
  pub grows : Grows old new
  pub represents : (i e : ResolvedType) → Represents old index i → Represents old element e → Represents new n (array_type i e)

abbrev pub subrange_row : Option Value → Option Value → TypeRow
subrange_row (Some a) (Some b) = row.Simple (record { base = a.base; low = a.ordinal; high = b.ordinal; start = a.ordinal })
subrange_row _ _ = row.Unknown

abbrev pub array_row : Option TypeRow → ℕ → TypeRow
array_row (Some (row.Simple s)) e = row.Array s.low s.high e
array_row _ e = row.Unknown

abbrev pub name_type : Name → GlobalScope → ResolvedType
name_type x g = resolved_type g (TypeName x)

abbrev pub range_type : Constant → Constant → GlobalScope → ResolvedType
range_type low high g = resolved_type g (Range (erase.constant low) (erase.constant high))

abbrev pub type_from : TypeExpression → GlobalScope → ResolvedType
type_from t g = resolved_type g (erase.type_expression (view.type_expression t))

-- An array of arrays, one for each index type.
abbrev pub array_type_over : List TypeExpression → ResolvedType → GlobalScope → ResolvedType
array_type_over [] of g = of
array_type_over (i ∷ is) of g = array_type (type_from i g) (array_type_over is of g)

-- Number `n` is made and represents that array of arrays, whatever the element number represents.
pub record MakesIndexed (names : Names) (old new : Types) (indices : List TypeExpression) (element n : ℕ) : Type 0 where
  pub grows : Grows old new
  pub represents : (g : GlobalScope) (e : ResolvedType) → ScopeRepresents names old g → Represents old element e → Represents new n (array_type_over indices e g)

-- ---- Fields

abbrev pub fields_of : List Fields → GlobalScope → Members
fields_of groups g = members_of g (erase.fields (view.fields_of (map view.variables groups)))

-- The fields that these names declare with the type `n`.
abbrev pub entries_of : List Identifier → ℕ → List (Name × ℕ)
entries_of xs n = map (λ x. (x.name, n)) xs

-- Entries are added after those that were there. Placed before entries that represent any `ms`, the
-- added ones represent `make g ms`.
pub record MakesList {E M : Type 0} (are : Types → List E → M → Type 0) (names : Names) (old new : Types) (before after : List E) (make : GlobalScope → M → M)
    : Type 0 where
  pub grows : Grows old new
  pub added : List E
  pub all : after ≡ before ++ added
  pub represents : (g : GlobalScope) (later : Types) (rest : List E) (ms : M) → ScopeRepresents names old g → Grows new later
      → are later rest ms → are later (added ++ rest) (make g ms)

-- `MakesList` for fields, which represent members.
abbrev pub MakesFields : Names → Types → Types → List (Name × ℕ) → List (Name × ℕ) → (GlobalScope → Members → Members) → Type 0
MakesFields = MakesList AreMembers

abbrev pub with_group : Fields → GlobalScope → Members → Members
with_group f g ms = with_members (map erase.name f.names.items) (type_from f.of g) ms

abbrev pub with_groups : List Fields → GlobalScope → Members → Members
with_groups [] g ms = ms
with_groups (f ∷ fs) g ms = with_group f g (with_groups fs g ms)

abbrev pub record_type : List Fields → GlobalScope → ResolvedType
record_type groups g = RecordOf (fields_of groups g)

-- ---- Definitions

abbrev pub with_parameters : List Parameters → GlobalScope → Members → Members
with_parameters groups g ms =
    members_from (filter (λ v. not (is_component v.1.type)) (declarations g (map erase.parameter_group (map view.parameters groups)))) ms

abbrev pub with_parameter : Parameters → GlobalScope → Members → Members
with_parameter p g ms = if is_component (name_type p.of.name g) then ms else with_members (map erase.name p.names.items) (name_type p.of.name g) ms
