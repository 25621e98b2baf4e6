-- Types: what a written type represents, given the definitions of a text.
use Rattle.std.specs.Prelude.{List, None, Option, Some, [], codes, neg_ℤ, negsuc, pos, ℤ, ◌∷◌}
use Rattle.cp_model.specs.Abstract.{Array, BaseType, Boolean, Char, Character, Constant, Enumeration, Fields, Integer, Minus, MoreFields, Name, Named, NoFields, Number, Range, Record, System, TypeExpression, TypeName}
use Rattle.cp_model.specs.Names.{lookup}

-- ---- Resolved types

-- What a written type represents. A simple type has its base type, its bounds and its start value.
-- A component has its system type and its own members: its parameters except rights to components,
-- then its variables. A name without a meaning gives `NoType`, which no accepted text has.
mutual
  pub data ResolvedType : Type 0 where
    Simple : (base : BaseType) (low high start : ℤ) → ResolvedType
    ArrayOf : (low high : ℤ) (element : ResolvedType) → ResolvedType
    RecordOf : (members : Members) → ResolvedType
    Queue : ResolvedType
    ComponentOf : (system : System) (members : Members) → ResolvedType
    NoType : ResolvedType

  pub data Members : Type 0 where
    NoMembers : Members
    MoreMembers : (field : Name) (type : ResolvedType) (rest : Members) → Members

abbrev pub first_ordinal : BaseType → ℤ
first_ordinal Integer = negsuc 32767
first_ordinal _ = pos 0

abbrev pub last_ordinal : BaseType → ℤ
last_ordinal Integer = pos 32767
last_ordinal Char = pos 127
last_ordinal Boolean = pos 1
last_ordinal (Enumeration name last) = pos last

-- A base type itself, which starts at 0.
abbrev pub full_range : BaseType → ResolvedType
full_range b = Simple b (first_ordinal b) (last_ordinal b) (pos 0)

abbrev pub base_of_type : ResolvedType → BaseType
base_of_type (Simple b low high start) = b
base_of_type _ = Integer

-- ---- The outermost scope

-- The constants (enumeration values among them) and types of the outermost scope.
pub record GlobalScope : Type 0 where
  pub constants : List (Name × (BaseType × ℤ))
  pub types : List (Name × ResolvedType)

-- The standard names of constants and types.
abbrev pub standard_scope : GlobalScope
standard_scope = record {
  constants = (codes "false", (Boolean, pos 0)) ∷ (codes "true", (Boolean, pos 1)) ∷ [];
  types =
      (codes "integer", full_range Integer)
      ∷ (codes "boolean", full_range Boolean)
      ∷ (codes "char", full_range Char)
      ∷ (codes "queue", Queue)
      ∷ [];
}

-- ---- What a written type represents

-- The base type and ordinal of a written constant.
abbrev pub constant_value : GlobalScope → Constant → Option (BaseType × ℤ)
constant_value g (Number n) = Some (Integer, pos n)
constant_value g (Minus n) = Some (Integer, neg_ℤ (pos n))
constant_value g (Character c) = Some (Char, pos c)
constant_value g (Named x) = lookup x g.constants

-- A subrange has the base type of its constants and starts at its lower bound.
abbrev pub subrange_type : Option (BaseType × ℤ) → Option (BaseType × ℤ) → ResolvedType
subrange_type (Some a) (Some b) = Simple a.0 a.1 b.1 a.1
subrange_type _ _ = NoType

-- An array has the bounds of its index type.
abbrev pub array_type : ResolvedType → ResolvedType → ResolvedType
array_type (Simple b low high start) t = ArrayOf low high t
array_type _ t = NoType

abbrev pub or_no_type : Option ResolvedType → ResolvedType
or_no_type (Some t) = t
or_no_type None = NoType

-- Members of one type, followed by others.
abbrev pub with_members : List Name → ResolvedType → Members → Members
with_members [] t ps = ps
with_members (x ∷ xs) t ps = MoreMembers x t (with_members xs t ps)

abbrev mutual
  pub resolved_type : GlobalScope → TypeExpression → ResolvedType
  resolved_type g (TypeName x) = or_no_type (lookup x g.types)
  resolved_type g (Range a b) = subrange_type (constant_value g a) (constant_value g b)
  resolved_type g (Array i e) = array_type (resolved_type g i) (resolved_type g e)
  resolved_type g (Record fs) = RecordOf (members_of g fs)

  pub members_of : GlobalScope → Fields → Members
  members_of g NoFields = NoMembers
  members_of g (MoreFields xs t rest) = with_members xs (resolved_type g t) (members_of g rest)

-- The type that a name represents.
abbrev pub named_type : GlobalScope → Name → ResolvedType
named_type g x = resolved_type g (TypeName x)
