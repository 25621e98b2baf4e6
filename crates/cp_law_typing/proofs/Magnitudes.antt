-- The bounds of types come from the numbers that are written, so they are no larger.
use Rattle.std.proofs.Common.{◌≤◌, ℕ, suc, ◌+◌, ℤ, pos, neg_ℤ, nat_abs, Bool, true, false, List, [], ◌∷◌, ◌++◌, Option, Some, None, if◌then◌else◌, filter, length, bytes_eq, arith}
use Rattle.cp_model.specs.Abstract.{Array, BaseType, Character, Constant, ConstantDef, Definition, EnumDef, Fields, Group, Minus, MoreFields, Name, Named, NoFields, Number, Range, Record, System, SystemDef, TypeDef, TypeExpression, TypeName}
use Rattle.cp_model.specs.Names.{lookup}
use Rattle.cp_model.specs.Types.{ArrayOf, ComponentOf, GlobalScope, Members, NoMembers, NoType, Queue, RecordOf, ResolvedType, Simple, array_type, constant_value, members_of, or_no_type, resolved_type, standard_scope, subrange_type, with_members}
use Rattle.cp_model.specs.Declarations.{Variable, declarations, declared_group, define, define_all, enumeration_constants, globals, members_from, reported_members, with_constant}
use Rattle.cp_law_typing.specs.Magnitudes.{AllSmallBounds, AreSmallConstants, AreSmallDefinitions, AreSmallFields, AreSmallGroups, AreSmallTypes, HasSmallBounds, HaveSmallBounds, IsSmallConstant, IsSmallScope, IsSmallSystem, IsSmallType}
use Rattle.cp_law_typing.specs.Laws.{BoundsAreAsWritten}
use Rattle.cp_law_typing.proofs.Members.{is_own}

module _ (n : ℕ) (large : 32768 ≤ n) where
  -- ---- constants

  abbrev IsSmallValue : Option (BaseType × ℤ) → Type 0
  IsSmallValue (Some c) = nat_abs c.1 ≤ n
  IsSmallValue None = Unit {0}

  constant_found : (x : Name) (cs : List (Name × (BaseType × ℤ))) → AreSmallConstants n cs → IsSmallValue (lookup x cs)
  constant_found x [] h = tt
  constant_found x (c ∷ cs) h = go (bytes_eq x c.0) (constant_found x cs h.1)
    where
      go : (b : Bool) → IsSmallValue (lookup x cs) → IsSmallValue (if b then Some c.1 else lookup x cs)
      go true rest = h.0
      go false rest = rest

  opposite : (k : ℕ) → k ≤ n → nat_abs (neg_ℤ (pos k)) ≤ n
  opposite k h = grind (arith, h)

  constant_small : (g : GlobalScope) (c : Constant) → IsSmallScope n g → IsSmallConstant n c → IsSmallValue (constant_value g c)
  constant_small g (Number k) s h = h
  constant_small g (Minus k) s h = opposite k h
  constant_small g (Character c) s h = h
  constant_small g (Named x) s h = constant_found x g.constants s.constants

  -- ---- types

  type_found : (x : Name) (ts : List (Name × ResolvedType)) → AreSmallTypes n ts → HasSmallBounds n (or_no_type (lookup x ts))
  type_found x [] h = tt
  type_found x (t ∷ ts) h = go (bytes_eq x t.0) (type_found x ts h.1)
    where
      go : (b : Bool) → HasSmallBounds n (or_no_type (lookup x ts)) → HasSmallBounds n (or_no_type (if b then Some t.1 else lookup x ts))
      go true rest = h.0
      go false rest = rest

  subrange_small : (a b : Option (BaseType × ℤ)) → IsSmallValue a → IsSmallValue b → HasSmallBounds n (subrange_type a b)
  subrange_small (Some a) (Some b) h k = (h, k)
  subrange_small (Some a) None h k = tt
  subrange_small None b h k = tt

  array_small : (i t : ResolvedType) → HasSmallBounds n i → HasSmallBounds n t → HasSmallBounds n (array_type i t)
  array_small (Simple b low high start) t h k = (h.0, h.1, k)
  array_small (ArrayOf low high u) t h k = tt
  array_small (RecordOf ps) t h k = tt
  array_small Queue t h k = tt
  array_small (ComponentOf s inner) t h k = tt
  array_small NoType t h k = tt

  members_small : (xs : List Name) (t : ResolvedType) (ps : Members) → HasSmallBounds n t → HaveSmallBounds n ps → HaveSmallBounds n (with_members xs t ps)
  members_small [] t ps h k = k
  members_small (x ∷ xs) t ps h k = (h, members_small xs t ps h k)

  mutual
    type_small : (te : TypeExpression) (g : GlobalScope) → IsSmallScope n g → IsSmallType n te → HasSmallBounds n (resolved_type g te)
    type_small (TypeName x) g s h = type_found x g.types s.types
    type_small (Range a b) g s h = subrange_small (constant_value g a) (constant_value g b) (constant_small g a s h.0) (constant_small g b s h.1)
    type_small (Array i e) g s h = array_small (resolved_type g i) (resolved_type g e) (type_small i g s h.0) (type_small e g s h.1)
    type_small (Record fs) g s h = fields_small fs g s h

    fields_small : (fs : Fields) (g : GlobalScope) → IsSmallScope n g → AreSmallFields n fs → HaveSmallBounds n (members_of g fs)
    fields_small NoFields g s h = tt
    fields_small (MoreFields xs t fs) g s h = members_small xs (resolved_type g t) (members_of g fs) (type_small t g s h.0) (fields_small fs g s h.1)

  -- ---- declarations

  group_small : (b : Bool) (t : ResolvedType) (xs : List Name) (rest : List (Name × Variable)) → HasSmallBounds n t → AllSmallBounds n rest → AllSmallBounds n (declared_group b t xs rest)
  group_small b t [] rest h k = k
  group_small b t (x ∷ xs) rest h k = (h, group_small b t xs rest h k)

  pub declarations_small : (ds : List Group) (g : GlobalScope) → IsSmallScope n g → AreSmallGroups n ds → AllSmallBounds n (declarations g ds)
  declarations_small [] g s h = tt
  declarations_small (d ∷ ds) g s h =
      group_small d.by_reference (resolved_type g d.type) d.names (declarations g ds) (type_small d.type g s h.0) (declarations_small ds g s h.1)

  from_small : (vs : List (Name × Variable)) (rest : Members) → AllSmallBounds n vs → HaveSmallBounds n rest → HaveSmallBounds n (members_from vs rest)
  from_small [] rest h k = k
  from_small (v ∷ vs) rest h k = (h.0, from_small vs rest h.1 k)

  own_small : (vs : List (Name × Variable)) → AllSmallBounds n vs → AllSmallBounds n (filter is_own vs)
  own_small [] h = tt
  own_small (v ∷ vs) h = go (is_own v) (own_small vs h.1)
    where
      go : (b : Bool) → AllSmallBounds n (filter is_own vs) → AllSmallBounds n (if b then v ∷ filter is_own vs else filter is_own vs)
      go true rest = (h.0, rest)
      go false rest = rest

  reported_small : (s : System) (g : GlobalScope) → IsSmallScope n g → IsSmallSystem n s → HaveSmallBounds n (reported_members g s)
  reported_small s g scope h =
      from_small (filter is_own (declarations g s.parameters)) _ (own_small (declarations g s.parameters) (declarations_small s.parameters g scope h.parameters))
      (from_small (declarations g s.variables) NoMembers (declarations_small s.variables g scope h.variables) tt)

  -- ---- definitions

  values_small : (b : BaseType) (k : ℕ) (xs : List Name) (rest : List (Name × (BaseType × ℤ))) → k + length xs ≤ n → AreSmallConstants n rest
      → AreSmallConstants n (enumeration_constants b k xs ++ rest)
  values_small b k [] rest h r = r
  values_small b k (x ∷ xs) rest h r = (omega (arith, h), values_small b (suc k) xs rest (omega (arith, h)) r)

  constant_defined : (x : Name) (o : Option (BaseType × ℤ)) (g : GlobalScope) → IsSmallScope n g → IsSmallValue o → IsSmallScope n (with_constant x o g)
  constant_defined x (Some c) g s h = record { constants = (h, s.constants); types = s.types }
  constant_defined x None g s h = s

  pub definitions_small : (ds : List Definition) (g : GlobalScope) → IsSmallScope n g → AreSmallDefinitions n ds → IsSmallScope n (define_all g ds)
  definitions_small [] g s h = s
  definitions_small (ConstantDef x c ∷ ds) g s h =
      definitions_small ds (with_constant x (constant_value g c) g) (constant_defined x (constant_value g c) g s (constant_small g c s h.0)) h.1
  definitions_small (TypeDef x t ∷ ds) g s h =
      definitions_small ds (define g (TypeDef x t)) (record { constants = s.constants; types = (type_small t g s h.0, s.types) }) h.1
  definitions_small (EnumDef x values ∷ ds) g s h =
      definitions_small ds (define g (EnumDef x values))
      (record { constants = values_small _ 0 values g.constants (omega (arith, h.0)) s.constants; types = ((omega arith, omega (arith, h.0)), s.types) }) h.1
  definitions_small (SystemDef x y ∷ ds) g s h =
      definitions_small ds (define g (SystemDef x y)) (record { constants = s.constants; types = (reported_small y g s h.0, s.types) }) h.1

  pub standard_small : IsSmallScope n standard_scope
  standard_small = record {
    constants = (omega arith, (omega (arith, large), tt));
    types = ((omega (arith, large), omega (arith, large)), ((omega arith, omega (arith, large)), ((omega arith, omega (arith, large)), (tt, tt))));
  }

pub bounds_small : BoundsAreAsWritten
bounds_small n tree large h =
    let scope : IsSmallScope n (globals tree) = definitions_small n large tree.definitions standard_scope (standard_small n large) h in
    (scope, λ gs k. declarations_small n large gs (globals tree) scope k)
