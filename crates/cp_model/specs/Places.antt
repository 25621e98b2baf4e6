-- Places: where a variable or a part of one is, what type it has, and what is read there.
use Rattle.std.specs.Prelude.{Bool, List, [], if◌then◌else◌, int_le, map, pos, ℤ, ◌&&◌, ◌∷◌}
use Rattle.cp_model.specs.Abstract.{BaseType, Boolean, Name}
use Rattle.std.specs.Str.{bytes_eq}
use Rattle.cp_model.specs.Types.{ArrayOf, Members, MoreMembers, NoMembers, NoType, RecordOf, ResolvedType, base_of_type, full_range}
use Rattle.cp_model.specs.Locations.{ByIndex, ByName, Location, under}
use Rattle.cp_model.specs.Stores.{Absent, Ordinal, Reference, Store, Value}
use Rattle.cp_model.specs.Leaves.{leaves}
use Rattle.cp_model.specs.Outcomes.{Fault, Outcome, guard}
use Rattle.cp_model.specs.Environments.{Environment, IsConstant, IsVariable, Meaning}

pub record Place : Type 0 where
  pub at : Location
  pub type : ResolvedType

-- A value consists of the values of all leaves of its type: just one for a simple value.
pub record TypedValue : Type 0 where
  pub type : ResolvedType
  pub values : List Value

-- ---- Simple values

abbrev pub simple_value : BaseType → ℤ → TypedValue
simple_value b n = record { type = full_range b; values = Ordinal n ∷ [] }

abbrev pub truth_value : Bool → TypedValue
truth_value b = simple_value Boolean (if b then pos 1 else pos 0)

abbrev pub ordinal_in : Value → ℤ
ordinal_in (Ordinal n) = n
ordinal_in _ = pos 0

abbrev pub head_or_absent : List Value → Value
head_or_absent [] = Absent
head_or_absent (x ∷ xs) = x

abbrev pub head_value : TypedValue → Value
head_value v = head_or_absent v.values

-- The ordinal of a simple value.
abbrev pub ordinal_of : TypedValue → ℤ
ordinal_of v = ordinal_in (head_value v)

abbrev pub base_of_value : TypedValue → BaseType
base_of_value v = base_of_type v.type

-- ---- Places

-- What a parameter at a location refers to, or the location itself if it holds no reference.
abbrev pub referent : Location → Value → Location
referent l (Reference k) = k
referent l _ = l

-- A name that doesn't mean a variable has the component's own location, and no type.
abbrev pub place_of_meaning : Environment → Store → Meaning → Place
place_of_meaning env store (IsVariable l v) = record { at = (if v.by_reference then referent l (store l) else l); type = v.type }
place_of_meaning env store _ = record { at = env.component; type = NoType }

abbrev pub member_type : Name → Members → ResolvedType
member_type x NoMembers = NoType
member_type x (MoreMembers y t ps) = if bytes_eq x y then t else member_type x ps

abbrev pub field_type : Name → ResolvedType → ResolvedType
field_type x (RecordOf ps) = member_type x ps
field_type x _ = NoType

abbrev pub field_place : Name → Place → Place
field_place x p = record { at = under p.at (ByName x ∷ []); type = field_type x p.type }

abbrev pub within : ℤ → ℤ → ℤ → Bool
within low high n = int_le low n && int_le n high

-- An index beyond the bounds is fault 2.
abbrev pub element_place : Location → ResolvedType → ℤ → Outcome Place
element_place at (ArrayOf low high t) i = guard (within low high i) 2 (record { at = under at (ByIndex i ∷ []); type = t })
element_place at _ i = Fault 2

abbrev pub indexed_place : Place → ℤ → Outcome Place
indexed_place p i = element_place p.at p.type i

-- ---- Reading

abbrev pub read : Store → Place → TypedValue
read store p = record { type = p.type; values = map (λ leaf. store (under p.at leaf.0)) (leaves p.type) }

abbrev pub value_of_meaning : Environment → Store → Meaning → TypedValue
value_of_meaning env store (IsConstant b n) = simple_value b n
value_of_meaning env store m = read store (place_of_meaning env store m)
